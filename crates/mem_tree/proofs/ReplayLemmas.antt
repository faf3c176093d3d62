-- Pending calls that are replayed.
use Rattle.std.proofs.Common.{◌≡◌, ◌⊎◌, inl, inr, ⊎_elim, ℕ, zero, suc, ◌+◌, ◌<◌, ◌≤◌, Bool, true, false, List, [], ◌∷◌, ◌++◌, length, take, get_or, map, refl, sym, ◌∙◌, ap, subst, arith, if◌then◌else◌}
use Rattle.std.proofs.lemmas.List.{append-nil, append_assoc, take_more, length-take-le, map-append}
use Rattle.tree_core.specs.declared.node.Change.{Change}
use Rattle.tree_core.specs.declared.node.Change.TheVariants.{MakeDir, MakeLink, MakeHard, WriteFile, Rename, SetMode, Remove, RemoveDir, Sync}
use Rattle.tree_core.specs.FileTree.{FileTree, IsTree, CanDo, done, next_after}
use Rattle.tree_core.specs.History.{History, Began, Then, IsSound, IsApplied, current_tree, next_number, is_sync, torn_call}
use Rattle.tree_core.specs.SubLists.{pending_calls, synced_tree, ComesBySome}
use Rattle.tree_core.proofs.Sound.{sound_then}
use Rattle.tree_core.proofs.Moments.{next_grows, sound_later, torn_next, applied_whole}
use Rattle.mem_tree.specs.Stores.{FilesBelow}
use Rattle.mem_tree.specs.Images.{Stand, picked, applied, Replays, emptied, AreNumbered, number_behind, CanReplay, synced_history}

abbrev pub Calls : Type 0
Calls = List (ℕ × Change)

pub replays-append : (cs ds : Calls) (from mid to : Stand) → Replays cs from mid → Replays ds mid to → Replays (cs ++ ds) from to
replays-append [] ds from mid to is more = subst (λ s. Replays ds s to) is more
replays-append (c ∷ cs) ds from mid to (inl on) more = inl (on.0, replays-append cs ds (applied c from) mid to on.1 more)
replays-append (c ∷ cs) ds from mid to (inr out) more = inr (out.0, replays-append cs ds from mid to out.1 more)

-- ---- the picked ones

-- one item more
pub picked-push : {A : Type 0} (passes : ℕ → Bool) (xs : List A) (x : A) → picked passes (xs ++ x ∷ []) ≡ picked passes xs ++ (if passes (length xs) then x ∷ [] else [])
picked-push passes [] x = append-nil _
picked-push passes (y ∷ xs) x =
    ap (λ l. (if passes 0 then y ∷ [] else []) ++ l) (picked-push (λ place. passes (place + 1)) xs x)
    ∙ sym (append_assoc (if passes 0 then y ∷ [] else []) _ _)
    ∙ ap (λ n. ((if passes 0 then y ∷ [] else []) ++ picked (λ place. passes (place + 1)) xs) ++ (if passes n then x ∷ [] else [])) (one_more (length xs))
  where
    one_more : (n : ℕ) → n + 1 ≡ suc n
    one_more n = omega arith

-- one call more, which may be picked
module _ (passes : ℕ → Bool) (calls : Calls) (i : ℕ) (call : ℕ × Change) (within : i < length calls) (is : call ≡ get_or calls i call) where
  picked-next : picked passes (take (i + 1) calls) ≡ picked passes (take i calls) ++ (if passes i then call ∷ [] else [])
  picked-next =
      ap (picked passes) (take_more calls i call within ∙ ap (λ x. take i calls ++ x ∷ []) (sym is))
      ∙ picked-push passes (take i calls) call
      ∙ ap (λ n. picked passes (take i calls) ++ (if passes n then call ∷ [] else [])) (length-take-le i calls (omega arith))

  pub replays-taken : (b : Bool) (from mid to : Stand) → b ≡ passes i → b ≡ true → Replays (picked passes (take i calls)) from mid → Replays (call ∷ []) mid to → Replays (picked passes (take (i + 1) calls)) from to
  replays-taken b from mid to test yes_is so_far one =
      subst (λ l. Replays l from to) (sym (picked-next ∙ ap (λ t. picked passes (take i calls) ++ (if t then call ∷ [] else [])) (sym test ∙ yes_is)))
      (replays-append (picked passes (take i calls)) (call ∷ []) from mid to so_far one)

  pub replays-left_out : (b : Bool) (from mid : Stand) → b ≡ passes i → b ≡ false → Replays (picked passes (take i calls)) from mid → Replays (picked passes (take (i + 1) calls)) from mid
  replays-left_out b from mid test no_is so_far =
      subst (λ l. Replays l from mid) (sym (picked-next ∙ ap (λ t. picked passes (take i calls) ++ (if t then call ∷ [] else [])) (sym test ∙ no_is) ∙ append-nil _)) so_far

pub picked-map : {A B : Type 0} (f : A → B) (passes : ℕ → Bool) (xs : List A) → picked passes (map f xs) ≡ map f (picked passes xs)
picked-map f passes [] = refl
picked-map f passes (x ∷ xs) = step (passes 0) ∙ ap (λ l. map f ((if passes 0 then x ∷ [] else [])) ++ l) (picked-map f (λ place. passes (place + 1)) xs)
    ∙ sym (map-append f (if passes 0 then x ∷ [] else []) (picked (λ place. passes (place + 1)) xs))
  where
    step : (b : Bool) → (if b then f x ∷ [] else []) ++ picked (λ place. passes (place + 1)) (map f xs) ≡ map f (if b then x ∷ [] else []) ++ picked (λ place. passes (place + 1)) (map f xs)
    step true = refl
    step false = refl

-- ---- what comes of a replay is a tree

abbrev SoundAt : ℕ → FileTree → Type 0
SoundAt n t = IsSound (Began t n)

applied_sound : (c : ℕ × Change) (n : ℕ) (s : Stand) → c.0 ≡ n → SoundAt n s.tree → CanDo c.1 s.tree → SoundAt (next_after c.1 n) (applied c s).tree
applied_sound c n s number sound can =
    subst (λ m. SoundAt (next_after c.1 n) (done c.1 m s.tree)) (sym number)
    (let behind = sound_then c.1 (Began s.tree n) sound can in record { allowed = tt; tree = behind.tree; texts = behind.texts; above = behind.above })

pub replays_sound : (passes : ℕ → Bool) (n : ℕ) (calls : Calls) (from to : Stand) → AreNumbered n calls → SoundAt n from.tree → Replays (picked passes calls) from to → SoundAt (number_behind n calls) to.tree
replays_sound passes n [] from to numbered sound is = subst (λ (s : Stand). SoundAt n s.tree) (sym is) sound
replays_sound passes n (c ∷ calls) from to numbered sound replays = by_case (passes 0) (λ mid good more. replays_sound (λ place. passes (place + 1)) (next_after c.1 n) calls mid to numbered.1 good more) replays
  where
    later : SoundAt (next_after c.1 n) from.tree
    later = sound_later n (next_after c.1 n) from.tree (next_grows c.1 n) sound

    by_case : (b : Bool) → ((mid : Stand) → SoundAt (next_after c.1 n) mid.tree → Replays (picked (λ place. passes (place + 1)) calls) mid to → SoundAt (number_behind (next_after c.1 n) calls) to.tree)
        → Replays ((if b then c ∷ [] else []) ++ picked (λ place. passes (place + 1)) calls) from to → SoundAt (number_behind (next_after c.1 n) calls) to.tree
    by_case true rest (inl on) = rest (applied c from) (applied_sound c n from numbered.0 sound on.0) on.1
    by_case true rest (inr out) = rest from later out.1
    by_case false rest more = rest from later more

numbered_take : (n : ℕ) (calls : Calls) (i : ℕ) → AreNumbered n calls → AreNumbered n (take i calls)
numbered_take n [] zero numbered = tt
numbered_take n [] (suc i) numbered = tt
numbered_take n (c ∷ calls) zero numbered = tt
numbered_take n (c ∷ calls) (suc i) numbered = (numbered.0, numbered_take (next_after c.1 n) calls i numbered.1)

numbered_at : (n : ℕ) (calls : Calls) (i : ℕ) (call : ℕ × Change) → AreNumbered n calls → i < length calls → call ≡ get_or calls i call → call.0 ≡ number_behind n (take i calls)
numbered_at n [] i call numbered within is = absurd (omega arith)
numbered_at n (c ∷ calls) zero call numbered within is = ap (λ x. x.0) is ∙ numbered.0
numbered_at n (c ∷ calls) (suc i) call numbered within is = numbered_at (next_after c.1 n) calls i call numbered.1 (omega arith) is

-- before each call of a replay its number is new to the tree
module _ (passes : ℕ → Bool) (calls : Calls) (i : ℕ) (call : ℕ × Change) (within : i < length calls) (is : call ≡ get_or calls i call) (from now : Stand) (can : CanReplay calls from.tree)
    (so_far : Replays (picked passes (take i calls)) from now) where
  sound_now : SoundAt (number_behind can.next (take i calls)) now.tree
  sound_now = replays_sound passes can.next (take i calls) from now (numbered_take can.next calls i can.numbered) can.sound so_far

  pub replay-tree : IsTree now.tree
  replay-tree = sound_now.tree

  pub replay-new : FilesBelow call.0 now.tree
  replay-new = subst (λ n. FilesBelow n now.tree) (sym (numbered_at can.next calls i call can.numbered within is)) sound_now.above

-- ---- the number of each

numbered-push : (n : ℕ) (calls : Calls) (call : ℕ × Change) → AreNumbered n calls → call.0 ≡ number_behind n calls → AreNumbered n (calls ++ call ∷ [])
numbered-push n [] call numbered is = (is, tt)
numbered-push n (c ∷ calls) call numbered is = (numbered.0, numbered-push (next_after c.1 n) calls call numbered.1 is)

behind-push : (n : ℕ) (calls : Calls) (call : ℕ × Change) → number_behind n (calls ++ call ∷ []) ≡ next_after call.1 (number_behind n calls)
behind-push n [] call = refl
behind-push n (c ∷ calls) call = behind-push (next_after c.1 n) calls call

next_sync : (change : Change) (n : ℕ) → is_sync change ≡ true → next_after change n ≡ n
next_sync (MakeDir p mode) n is = refl
next_sync (MakeLink p target) n is = refl
next_sync (MakeHard p old) n is = refl
next_sync (WriteFile p bytes mode) n is = cc
next_sync (Rename from to) n is = refl
next_sync (SetMode p mode) n is = refl
next_sync (Remove p) n is = refl
next_sync (RemoveDir p) n is = refl
next_sync Sync n is = refl

-- these are all calls, behind a history that ends with a sync or began so
pub record Pend (start : History) (calls : Calls) (next : ℕ) : Type 0 where
  pub numbered : AreNumbered (next_number start) calls
  pub ends : number_behind (next_number start) calls ≡ next

pub pend : (h : History) → Pend (synced_history h) (pending_calls h) (next_number h)
pend (Began t next) = record { numbered = tt; ends = refl }
pend (Then h change) = by_case (is_sync change) refl (pend h)
  where
    by_case : (s : Bool) → is_sync change ≡ s → Pend (synced_history h) (pending_calls h) (next_number h)
        → Pend (if s then h else synced_history h) (if s then [] else pending_calls h ++ (next_number h, change) ∷ []) (next_after change (next_number h))
    by_case true is so_far = record { numbered = tt; ends = sym (next_sync change (next_number h) is) }
    by_case false is so_far = record {
      numbered = numbered-push _ (pending_calls h) (next_number h, change) so_far.numbered (sym so_far.ends);
      ends = behind-push _ (pending_calls h) (next_number h, change) ∙ ap (next_after change) so_far.ends;
    }

-- with empty files they have the same numbers

pub numbered_empty : (n : ℕ) (calls : Calls) → AreNumbered n calls → AreNumbered n (map emptied calls)
numbered_empty n [] numbered = tt
numbered_empty n (c ∷ calls) numbered = (numbered.0, subst (λ m. AreNumbered m (map emptied calls)) (sym (torn_next c.1 [] n)) (numbered_empty (next_after c.1 n) calls numbered.1))

pub behind_empty : (n : ℕ) (calls : Calls) → number_behind n (map emptied calls) ≡ number_behind n calls
behind_empty n [] = refl
behind_empty n (c ∷ calls) = ap (λ m. number_behind m (map emptied calls)) (torn_next c.1 [] n) ∙ behind_empty (next_after c.1 n) calls

-- ---- what comes of a replay a crash may leave

torn_could : (change : Change) (t : FileTree) → CanDo (torn_call change []) t → CanDo change t
torn_could (MakeDir p mode) t can = can
torn_could (MakeLink p target) t can = can
torn_could (MakeHard p old) t can = can
torn_could (WriteFile p bytes mode) t can = can
torn_could (Rename from to) t can = can
torn_could (SetMode p mode) t can = can
torn_could (Remove p) t can = can
torn_could (RemoveDir p) t can = can
torn_could Sync t can = can

-- each call, changed so, is one that a crash may apply
abbrev Tears : (ℕ × Change → ℕ × Change) → Type 0
Tears fill = (c : ℕ × Change) (t : FileTree) → CanDo (fill c).1 t → IsApplied c.1 c.0 t (done (fill c).1 (fill c).0 t)

tears_whole : Tears (λ c. c)
tears_whole c t can = applied_whole c.1 c.0 t can

tears_empty : Tears emptied
tears_empty c t can = record { can = torn_could c.1 t can; bytes = []; is = refl }

comes : (fill : ℕ × Change → ℕ × Change) → Tears fill → (passes : ℕ → Bool) (calls : Calls) (from to : Stand) → Replays (map fill (picked passes calls)) from to → ComesBySome calls from.tree to.tree
comes fill tears passes [] from to is = ap (λ (s : Stand). s.tree) is
comes fill tears passes (c ∷ calls) from to replays = by_case (passes 0) (λ mid more. comes fill tears (λ place. passes (place + 1)) calls mid to more) replays
  where
    by_case : (b : Bool) → ((mid : Stand) → Replays (map fill (picked (λ place. passes (place + 1)) calls)) mid to → ComesBySome calls mid.tree to.tree)
        → Replays (map fill ((if b then c ∷ [] else []) ++ picked (λ place. passes (place + 1)) calls)) from to → ComesBySome (c ∷ calls) from.tree to.tree
    by_case true rest (inl on) = inr ((applied (fill c) from).tree, tears c from.tree on.0, rest (applied (fill c) from) on.1)
    by_case true rest (inr out) = inl (rest from out.1)
    by_case false rest more = inl (rest from more)

map_same : (calls : Calls) → map (λ c. c) calls ≡ calls
map_same [] = refl
map_same (c ∷ calls) = ap (λ l. c ∷ l) (map_same calls)

pub comes_whole : (passes : ℕ → Bool) (calls : Calls) (from to : Stand) → Replays (picked passes calls) from to → ComesBySome calls from.tree to.tree
comes_whole passes calls from to replays = comes (λ c. c) tears_whole passes calls from to (subst (λ l. Replays l from to) (sym (map_same (picked passes calls))) replays)

pub comes_empty : (passes : ℕ → Bool) (calls : Calls) (from to : Stand) → Replays (map emptied (picked passes calls)) from to → ComesBySome calls from.tree to.tree
comes_empty passes calls from to replays = comes emptied tears_empty passes calls from to replays

-- the tree of the last sync
pub synced_same : (h : History) → current_tree (synced_history h) ≡ synced_tree h
synced_same (Began t next) = refl
synced_same (Then h change) = by_case (is_sync change) (synced_same h)
  where
    by_case : (s : Bool) → current_tree (synced_history h) ≡ synced_tree h → current_tree (if s then h else synced_history h) ≡ (if s then current_tree h else synced_tree h)
    by_case true same = refl
    by_case false same = same
