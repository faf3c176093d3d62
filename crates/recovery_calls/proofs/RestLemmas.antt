-- Calls with looks between them, one run behind another.
use Rattle.std.proofs.Common.{◌≡◌, ◌⊎◌, inl, inr, ℕ, zero, suc, ◌+◌, List, [], ◌∷◌, ◌++◌, length, take, refl, sym, ◌∙◌, ap, subst, arith, append_assoc, Result, Ok, Err}
use Rattle.std.proofs.lemmas.List.{append-nil}
use Rattle.step_looks.specs.Undoing.{LookedIn, RanOrLooked}
use Rattle.tree_core.specs.declared.node.CallName.{CallName}
use Rattle.tree_core.specs.declared.node.Change.{Change}
use Rattle.tree_core.specs.FileTree.{FileTree}
use Rattle.tree_core.specs.History.{History, current_tree}
use Rattle.tree_core.specs.Runs.{CanAll, FailedIn, Ran, then_all}
use Rattle.tree_core.proofs.Runs.{can_first, can_rest, failed_first, failed_rest, then_all-append}

-- some of all calls were done, and these are left
pub record Rest (all : List Change) (began now : History) (left : List Change) : Type 0 where
  pub front : List Change
  pub split : front ++ left ≡ all
  pub here : now ≡ then_all began front

pub rest_all : (all : List Change) (began now : History) → now ≡ began → Rest all began now all
rest_all all began now same = record { front = []; split = refl; here = same }

pub rest_next : (all : List Change) (began now new : History) (cs ds : List Change) → Rest all began now (cs ++ ds) → new ≡ then_all now cs → Rest all began new ds
rest_next all began now new cs ds r is = record {
  front = r.front ++ cs;
  split = append_assoc r.front cs ds ∙ r.split;
  here = is ∙ ap (λ (h : History). then_all h cs) r.here ∙ sym (then_all-append began r.front cs);
}

-- a tree that was looked at
pub rest_seen : (all : List Change) (began now new : History) (left : List Change) → Rest all began now left → new ≡ now → Rest all began new left
rest_seen all began now new left r same = record { front = r.front; split = r.split; here = same ∙ r.here }

pub rest_as : (all : List Change) (began now : History) (left other : List Change) → Rest all began now left → left ≡ other → Rest all began now other
rest_as all began now left other r same = subst (Rest all began now) same r

pub rest_can : (all : List Change) (began now : History) (left : List Change) → CanAll all began → Rest all began now left → CanAll left now
rest_can all began now left can r = subst (CanAll left) (sym r.here) (can_rest began r.front left (subst (λ (l : List Change). CanAll l began) (sym r.split) can))

pub rest_can_first : (all : List Change) (began now : History) (cs ds : List Change) → CanAll all began → Rest all began now (cs ++ ds) → CanAll cs now
rest_can_first all began now cs ds can r = can_first now cs ds (rest_can all began now (cs ++ ds) can r)

-- none are left
pub rest_none : (all : List Change) (began now : History) → Rest all began now [] → now ≡ then_all began all
rest_none all began now r = r.here ∙ ap (then_all began) (sym (append-nil r.front) ∙ r.split)

-- ---- failed calls and looks

take_past : (front left : List Change) (n : ℕ) → take (length front + n) (front ++ left) ≡ front ++ take n left
take_past [] left n = let e : 0 + n ≡ n = omega arith in ap (λ k. take k left) e
take_past (c ∷ front) left n = let e : length (c ∷ front) + n ≡ suc (length front + n) = omega arith in ap (λ k. take k (c ∷ (front ++ left))) e ∙ ap (λ (l : List Change). c ∷ l) (take_past front left n)

record Within (cs ds : List Change) (n : ℕ) : Type 0 where
  pub count : ℕ
  pub same : take count (cs ++ ds) ≡ take n cs

take_none : (n : ℕ) → ◌≡◌ {A = List Change} (take n []) []
take_none zero = refl
take_none (suc n) = refl

within_first : (cs ds : List Change) (n : ℕ) → Within cs ds n
within_first [] ds n = record { count = 0; same = sym (take_none n) }
within_first (c ∷ cs) ds zero = record { count = 0; same = refl }
within_first (c ∷ cs) ds (suc n) = let w = within_first cs ds n in record { count = suc w.count; same = ap (λ (l : List Change). c ∷ l) w.same }

looked_first : (cs ds : List Change) (now new : History) (before : FileTree) → LookedIn cs now new before → LookedIn (cs ++ ds) now new before
looked_first cs ds now new before l = let w = within_first cs ds l.count in record { count = w.count; history = l.history ∙ ap (then_all now) (sym w.same); tree = l.tree }

-- a call or a look
abbrev pub Ended : List Change → History → History → FileTree → CallName → Type 0
Ended cs old new before first = FailedIn cs old new before first ⊎ LookedIn cs old new before

module _ (all : List Change) (began now : History) (left : List Change) (r : Rest all began now left) where
  failed_left : (new : History) (before : FileTree) (first : CallName) → FailedIn left now new before first → FailedIn all began new before first
  failed_left new before first failed =
      subst (λ (l : List Change). FailedIn l began new before first) r.split
      (failed_rest r.front left began new before first (subst (λ (h : History). FailedIn left h new before first) r.here failed))

  looked_left : (new : History) (before : FileTree) → LookedIn left now new before → LookedIn all began new before
  looked_left new before l = record {
    count = length r.front + l.count;
    history = l.history ∙ ap (λ (h : History). then_all h (take l.count left)) r.here ∙ sym (then_all-append began r.front (take l.count left))
        ∙ ap (then_all began) (sym (ap (take (length r.front + l.count)) (sym r.split) ∙ take_past r.front left l.count));
    tree = l.tree;
  }

  pub ended_left : (new : History) (before : FileTree) (first : CallName) → Ended left now new before first → Ended all began new before first
  ended_left new before first (inl failed) = inl (failed_left new before first failed)
  ended_left new before first (inr looked) = inr (looked_left new before looked)

  -- a look that failed here
  pub ended_look : (new : History) (before : FileTree) (first : CallName) → new ≡ now → before ≡ current_tree now → Ended all began new before first
  ended_look new before first same tree = inr (looked_left new before record { count = 0; history = same; tree = tree ∙ ap current_tree (sym same) })

  -- the last run
  pub ran_left : {T : Type 0} (new : History) (first between after : FileTree) (result : Result T CallName) → between ≡ first → RanOrLooked left now new between after result → RanOrLooked all began new first after result
  ran_left new first between after (Ok v) same ran = (
    ran.0 ∙ ap (λ (h : History). then_all h left) r.here ∙ sym (then_all-append began r.front left) ∙ ap (then_all began) r.split,
    ran.1 ∙ same,
  )
  ran_left new first between after (Err e) same ended = ended_left new after e ended

-- the first of two runs
pub ended_first : (all : List Change) (began now : History) (cs ds : List Change) → Rest all began now (cs ++ ds) → (new : History) (before : FileTree) (first : CallName) → Ended cs now new before first → Ended all began new before first
ended_first all began now cs ds r new before first (inl failed) = ended_left all began now (cs ++ ds) r new before first (inl (failed_first cs ds now new before first failed))
ended_first all began now cs ds r new before first (inr looked) = ended_left all began now (cs ++ ds) r new before first (inr (looked_first cs ds now new before looked))

-- an error is answered
pub ran_ended : {T : Type 0} (cs : List Change) (old new : History) (before after : FileTree) (result : Result T CallName) (first : CallName) → result ≡ Err first → Ended cs old new after first → RanOrLooked cs old new before after result
ran_ended cs old new before after result first is ended = subst (RanOrLooked cs old new before after) (sym is) ended

-- calls with no look between them
pub ran_looked : {T : Type 0} (cs : List Change) (old new : History) (before after : FileTree) (result : Result T CallName) → Ran cs old new before after result → RanOrLooked cs old new before after result
ran_looked cs old new before after (Ok v) ran = ran
ran_looked cs old new before after (Err e) failed = inl failed
