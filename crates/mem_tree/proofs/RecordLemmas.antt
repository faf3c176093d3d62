-- Records of changing calls, and one call more.
use Rattle.std.proofs.Common.{◌≡◌, ℕ, ◌+◌, ◌≤◌, zero, suc, ◌<◌, Bool, true, false, ◌&&◌, List, [], ◌∷◌, ◌++◌, length, take, get_or, refl, sym, ◌∙◌, ap, subst, arith, if◌then◌else◌, length-append}
use Rattle.std.proofs.lemmas.List.{take-append-le, take_all, take_more, length-take-le, get_or-take}
use Rattle.tree_core.specs.declared.node.Change.{Change}
use Rattle.tree_core.specs.FileTree.{FileTree, IsTree, CanDo, done, next_after}
use Rattle.tree_core.specs.History.{History, Began, Then, IsSound, next_number, current_tree, is_sync}
use Rattle.tree_core.specs.SubLists.{pending_calls}
use Rattle.tree_core.proofs.Sound.{sound_then}
use Rattle.mem_tree.specs.declared.attempt.Attempt.{Attempt}
use Rattle.mem_tree.specs.declared.store.Store.{Store}
use Rattle.mem_tree.specs.Stores.{tree_of, times_of, FilesBelow}
use Rattle.mem_tree.specs.Images.{Stand, stand_in, stand_of, synced_history}
use Rattle.mem_tree.specs.Times.{Times, times_after, times_now}
use Rattle.mem_tree.specs.Records.{history_with, history_after, history_of, Was, AllWere, is_done_sync, pending_with}

pub history_after-push : (h : History) (attempts : List Attempt) (a : Attempt) → history_after h (attempts ++ a ∷ []) ≡ history_with (history_after h attempts) a
history_after-push h [] a = refl
history_after-push h (b ∷ attempts) a = history_after-push (history_with h b) attempts a

pub history-push : (began : Store) (first : ℕ) (old new : List Attempt) (a : Attempt) → new ≡ old ++ a ∷ [] → history_of began first new ≡ history_with (history_of began first old) a
history-push began first old new a is = ap (history_of began first) is ∙ history_after-push _ old a

sound_with : (h : History) (a : Attempt) → IsSound h → Was h a → IsSound (history_with h a)
sound_with h a sound was = by_case a.is_done was.allowed
  where
    by_case : (d : Bool) → (d ≡ true → CanDo a.change (current_tree h)) → IsSound (if d then Then h a.change else h)
    by_case true can = sound_then a.change h sound (can refl)
    by_case false can = sound

-- a sound history goes on to a sound one
pub sound_after : (h : History) (attempts : List Attempt) → IsSound h → AllWere h attempts → IsSound (history_after h attempts)
sound_after h [] sound were = sound
sound_after h (a ∷ left) sound were = sound_after (history_with h a) left (sound_with h a sound were.0) were.1

pub were-push : (h : History) (attempts : List Attempt) (a : Attempt) → AllWere h attempts → Was (history_after h attempts) a → AllWere h (attempts ++ a ∷ [])
were-push h [] a were was = (was, tt)
were-push h (b ∷ left) a were was = (were.0, were-push (history_with h b) left a were.1 was)

-- The store shows the tree that reads, and each call of the record was allowed.
pub record Keeps (store : Store) (next : ℕ) (began : Store) (first : ℕ) (attempts : List Attempt) : Type 0 where
  pub begins : IsSound (Began (tree_of began) first)
  pub were : AllWere (Began (tree_of began) first) attempts
  pub reads : tree_of store ≡ current_tree (history_of began first attempts)
  pub timed : times_of store ≡ times_now (history_of began first attempts) (times_of began)
  pub numbered : next ≡ next_number (history_of began first attempts)

-- before the first call
pub keeps-began : (store began : Store) (first : ℕ) (attempts : List Attempt) → tree_of began ≡ tree_of store → times_of began ≡ times_of store → IsSound (Began (tree_of store) first) → attempts ≡ [] → Keeps store first began first attempts
keeps-began store began first attempts same same_times sound none =
    subst (Keeps store first began first) (sym none)
    record { begins = subst (λ t. IsSound (Began t first)) (sym same) sound; were = tt; reads = sym same; timed = sym same_times; numbered = refl }

-- one call more
module _ (store later_store began : Store) (first next later : ℕ) (old new : List Attempt) (a : Attempt)
    (is : new ≡ old ++ a ∷ []) (number : a.number ≡ next) (later_is : later ≡ (if a.is_done then next_after a.change next else next))
    (tree : tree_of later_store ≡ (if a.is_done then done a.change a.number (tree_of store) else tree_of store))
    (times : times_of later_store ≡ (if a.is_done then times_after a.change (times_of store) else times_of store))
    (keeps : Keeps store next began first old) (can : CanDo a.change (current_tree (history_of began first old))) where
  abbrev behind : History
  behind = history_of began first old

  history-call : history_of began first new ≡ (if a.is_done then Then behind a.change else behind)
  history-call = history-push began first old new a is

  Shown : Bool → Type 0
  Shown d = (tree_of later_store ≡ current_tree (if d then Then behind a.change else behind))
      × (times_of later_store ≡ times_now (if d then Then behind a.change else behind) (times_of began)) × (later ≡ next_number (if d then Then behind a.change else behind))

  shown : (d : Bool) → later ≡ (if d then next_after a.change next else next) → tree_of later_store ≡ (if d then done a.change a.number (tree_of store) else tree_of store)
      → times_of later_store ≡ (if d then times_after a.change (times_of store) else times_of store) → Shown d
  unfolding Shown
  shown true l t s = (
    t ∙ ap (λ n. done a.change n (tree_of store)) (number ∙ keeps.numbered) ∙ ap (λ u. done a.change (next_number behind) u) keeps.reads,
    s ∙ ap (times_after a.change) keeps.timed,
    l ∙ ap (next_after a.change) keeps.numbered,
  )
  shown false l t s = (t ∙ keeps.reads, s ∙ keeps.timed, l ∙ keeps.numbered)

  was : Was behind a
  was = record { numbered = number ∙ keeps.numbered; allowed = λ _. can }

  pub keeps-call : Keeps later_store later began first new
  unfolding Shown
  keeps-call =
      let now = shown a.is_done later_is tree times in
      record {
        begins = keeps.begins;
        were = subst (AllWere (Began (tree_of began) first)) (sym is) (were-push _ old a keeps.were was);
        reads = now.0 ∙ ap current_tree (sym history-call);
        timed = now.1 ∙ ap (λ h. times_now h (times_of began)) (sym history-call);
        numbered = now.2 ∙ ap next_number (sym history-call);
      }

pub keeps_sound : (store : Store) (next : ℕ) (began : Store) (first : ℕ) (attempts : List Attempt) → Keeps store next began first attempts → IsSound (history_of began first attempts)
keeps_sound store next began first attempts keeps = sound_after _ attempts keeps.begins keeps.were

-- a place in the record stays one
pub counted-push : (n : ℕ) (old new : List Attempt) (a : Attempt) → n ≤ length old → new ≡ old ++ a ∷ [] → n ≤ length new
counted-push n old new a within is = let longer : length new ≡ length old + 1 = ap length is ∙ length-append old (a ∷ []) in omega arith

-- and what came before it stays
pub before-push : (began : Store) (first n : ℕ) (old new : List Attempt) (a : Attempt) → n ≤ length old → new ≡ old ++ a ∷ [] → current_tree (history_of began first (take n new)) ≡ current_tree (history_of began first (take n old))
before-push began first n old new a within is = ap (λ l. current_tree (history_of began first (take n l))) is ∙ ap (λ l. current_tree (history_of began first l)) (take-append-le n old (a ∷ []) within)

pub before-all : (began : Store) (first n : ℕ) (old new : List Attempt) (a : Attempt) → n ≡ length old → new ≡ old ++ a ∷ [] → current_tree (history_of began first (take n new)) ≡ current_tree (history_of began first old)
before-all began first n old new a is grown =
    before-push began first n old new a (omega arith) grown ∙ ap (λ l. current_tree (history_of began first l)) (take_all n old (omega arith))

-- ---- the first calls of the record

pub were_at : (h : History) (attempts : List Attempt) (i : ℕ) (a : Attempt) → AllWere h attempts → i < length attempts → a ≡ get_or attempts i a → Was (history_after h (take i attempts)) a
were_at h [] i a were within is = absurd (omega arith)
were_at h (b ∷ left) zero a were within is = subst (Was h) (sym is) were.0
were_at h (b ∷ left) (suc i) a were within is = were_at (history_with h b) left i a were.1 (omega arith) is

pub were_take : (h : History) (attempts : List Attempt) (n : ℕ) → AllWere h attempts → AllWere h (take n attempts)
were_take h [] zero were = tt
were_take h [] (suc n) were = tt
were_take h (b ∷ left) zero were = tt
were_take h (b ∷ left) (suc n) were = (were.0, were_take (history_with h b) left n were.1)

-- The place of a call of the record, in a list that is the record, or its first calls.
pub place-in : (shown attempts : List Attempt) (i : ℕ) (a : Attempt) → shown ≡ attempts → i < length shown → a ≡ get_or shown i a → (i < length attempts) × (a ≡ get_or attempts i a)
place-in shown attempts i a same within is = subst (λ l. (i < length l) × (a ≡ get_or l i a)) same (within, is)

pub place-in_first : (shown attempts : List Attempt) (n i : ℕ) (a : Attempt) → shown ≡ attempts → n ≤ length attempts → i < length (take n shown) → a ≡ get_or (take n shown) i a → (i < length attempts) × (a ≡ get_or attempts i a)
place-in_first shown attempts n i a same fits within is =
    let placed = place-in (take n shown) (take n attempts) i a (ap (take n) same) within is in
    let low : i < n = let len = length-take-le n attempts fits in let less : i < length (take n attempts) = placed.0 in omega arith in
    (omega arith, placed.1 ∙ get_or-take n attempts i a low)

-- one of them more
module _ (began : Store) (first : ℕ) (attempts : List Attempt) (i : ℕ) (a : Attempt) (within : i < length attempts) (is : a ≡ get_or attempts i a)
    (begins : IsSound (Began (tree_of began) first)) (were : AllWere (Began (tree_of began) first) attempts) where
  abbrev before : History
  before = history_of began first (take i attempts)

  history-next : history_of began first (take (i + 1) attempts) ≡ history_with before a
  history-next = history-push began first (take i attempts) _ a (take_more attempts i a within ∙ ap (λ x. take i attempts ++ x ∷ []) (sym is))

  was_next : Was before a
  was_next = were_at _ attempts i a were within is

  -- what is pending
  pub pending-next : (calls later : List (ℕ × Change)) → calls ≡ pending_calls before → later ≡ pending_with a calls → later ≡ pending_calls (history_of began first (take (i + 1) attempts))
  pending-next calls later pends is_later = is_later ∙ by_case a.is_done ∙ ap pending_calls (sym history-next)
    where
      by_sync : (s : Bool) → (if s then [] else calls ++ (a.number, a.change) ∷ []) ≡ (if s then [] else pending_calls before ++ (next_number before, a.change) ∷ [])
      by_sync true = refl
      by_sync false = λ k. pends k ++ (was_next.numbered k, a.change) ∷ []

      by_case : (d : Bool) → (if d then (if is_sync a.change then [] else calls ++ (a.number, a.change) ∷ []) else calls) ≡ pending_calls (if d then Then before a.change else before)
      by_case true = by_sync (is_sync a.change)
      by_case false = pends

  -- how many came before the last sync
  pub synced-next : (count later : ℕ) → history_of began first (take count attempts) ≡ synced_history before → later ≡ (if is_done_sync a then i else count)
      → history_of began first (take later attempts) ≡ synced_history (history_of began first (take (i + 1) attempts))
  synced-next count later synced is_later = ap (λ n. history_of began first (take n attempts)) is_later ∙ by_case a.is_done ∙ ap synced_history (sym history-next)
    where
      by_sync : (s : Bool) → history_of began first (take (if s then i else count) attempts) ≡ (if s then before else synced_history before)
      by_sync true = refl
      by_sync false = synced

      by_case : (d : Bool) → history_of began first (take (if d && is_sync a.change then i else count) attempts) ≡ synced_history (if d then Then before a.change else before)
      by_case true = by_sync (is_sync a.change)
      by_case false = synced

  -- what they made of the tree
  module _ (store : Store) (stands : stand_in store ≡ stand_of before (times_of began)) where
    sound_before : IsSound before
    sound_before = sound_after _ (take i attempts) begins (were_take _ attempts i were)

    tree_before : tree_of store ≡ current_tree before
    tree_before = ap (λ (s : Stand). s.tree) stands

    pub redo-tree : IsTree (tree_of store)
    redo-tree = subst IsTree (sym tree_before) sound_before.tree

    pub redo-can : a.is_done ≡ true → CanDo a.change (tree_of store)
    redo-can d = subst (CanDo a.change) (sym tree_before) (was_next.allowed d)

    pub redo-new : FilesBelow a.number (tree_of store)
    redo-new = subst (λ n. FilesBelow n (tree_of store)) (sym was_next.numbered) (subst (FilesBelow (next_number before)) (sym tree_before) sound_before.above)

    pub redo-next : (later : Store) → tree_of later ≡ (if a.is_done then done a.change a.number (tree_of store) else tree_of store)
        → times_of later ≡ (if a.is_done then times_after a.change (times_of store) else times_of store) → stand_in later ≡ stand_of (history_of began first (take (i + 1) attempts)) (times_of began)
    redo-next later tree times = by_case a.is_done tree times ∙ ap (λ h. stand_of h (times_of began)) (sym history-next)
      where
        by_case : (d : Bool) → tree_of later ≡ (if d then done a.change a.number (tree_of store) else tree_of store) → times_of later ≡ (if d then times_after a.change (times_of store) else times_of store)
            → stand_in later ≡ stand_of (if d then Then before a.change else before) (times_of began)
        by_case true t s = (λ k. record { tree = t k; times = s k }) ∙ ap (λ n. record { tree = done a.change n (tree_of store); times = times_after a.change (times_of store) }) was_next.numbered
            ∙ ap (λ (u : Stand). record { tree = done a.change (next_number before) u.tree; times = times_after a.change u.times }) stands
        by_case false t s = (λ k. record { tree = t k; times = s k }) ∙ stands
