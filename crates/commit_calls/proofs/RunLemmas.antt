-- Loops and chains of calls.
use Rattle.std.proofs.Common.{refl, take, ◌≡◌, ℕ, ◌+◌, ◌<◌, List, [], ◌∷◌, ◌++◌, length, get_or, drop, sym, ◌∙◌, ap, subst, append_assoc, Result, Ok, Err}
use Rattle.std.proofs.lemmas.List.{take_more, drop_more, get_or_default}
use Rattle.dired_text.specs.Paths.{Names}
use Rattle.tree_core.specs.declared.node.Change.{Change}
use Rattle.tree_core.specs.declared.changes.Fresh.{Fresh}
use Rattle.tree_core.specs.declared.node.CallName.{CallName}
use Rattle.tree_core.specs.FileTree.{FileTree}
use Rattle.tree_core.specs.History.{History}
use Rattle.tree_core.specs.declared.node.Change.TheVariants as call
use Rattle.tree_core.specs.Runs.{then_all, CanAll, FailedIn, Ran}
use Rattle.tree_core.proofs.Runs.{Left, then_all-append, can_first, can_rest, failed_first, failed_rest}
use Rattle.commit_steps.specs.declared.step.Step.{Step}
use Rattle.commit_states.specs.declared.held.Held.{Held}
use Rattle.step_trees.specs.Steps.{call_of, undo_of}
use Rattle.commit_steps.specs.Staging.{staged, fresh_name, held}
use Rattle.commit_states.specs.Calls.{do_calls, undo_calls, unmarked_calls, marked_calls, fresh_call, fresh_calls, removal_by, removals_by, held_items}
use Rattle.commit_calls.specs.Parts.{synced_rename_calls, remove_calls}

-- one of the calls failed, and an error is answered
pub ran_failed : {T : Type 0} (cs : List Change) (old new : History) (before after : FileTree) (result : Result T CallName) (first : CallName) → result ≡ Err first → FailedIn cs old new after first → Ran cs old new before after result
ran_failed cs old new before after (Ok v) first err failed = cc
ran_failed cs old new before after (Err e) first err failed = let same : e ≡ first = cc in subst (λ (n : CallName). FailedIn cs old new after n) (sym same) failed

-- ---- one run behind another

module _ (cs ds : List Change) (old mid new : History) (is : mid ≡ then_all old cs) where
  pub can_behind : CanAll (cs ++ ds) old → CanAll ds mid
  can_behind can = subst (CanAll ds) (sym is) (can_rest old cs ds can)

  pub failed_behind : (before : FileTree) (first : CallName) → FailedIn ds mid new before first → FailedIn (cs ++ ds) old new before first
  failed_behind before first failed = failed_rest cs ds old new before first (subst (λ (h : History). FailedIn ds h new before first) is failed)

  pub ran_behind : {T : Type 0} (before between after : FileTree) (result : Result T CallName) → between ≡ before → Ran ds mid new between after result → Ran (cs ++ ds) old new before after result
  ran_behind before between after (Ok v) same all = (all.0 ∙ ap (λ (h : History). then_all h ds) is ∙ sym (then_all-append old cs ds), all.1 ∙ same)
  ran_behind before between after (Err e) same failed = failed_behind after e failed

-- the same calls, written otherwise
pub ran_as : {T : Type 0} (cs ds : List Change) (old new : History) (before after : FileTree) (result : Result T CallName) → cs ≡ ds → Ran cs old new before after result → Ran ds old new before after result
ran_as cs ds old new before after result same ran = subst (λ (l : List Change). Ran l old new before after result) same ran

-- an item read at a place
pub item_is : {X : Type 0} (xs : List X) (k : ℕ) (d : X) → k < length xs → get_or xs k d ≡ get_or xs k (get_or xs k d)
item_is xs k d within = get_or_default xs k d (get_or xs k d) within

module _ (all : List Change) (began now : History) (k : ℕ) where
  pub fresh_left : (fs : List Fresh) (f : Fresh) (p : Names) → k < length fs → f ≡ get_or fs k f → p ≡ staged (fresh_name k)
      → Left all began now (fresh_calls k (drop k fs)) → Left all began now ((fresh_call p f ∷ []) ++ fresh_calls (k + 1) (drop (k + 1) fs))
  fresh_left fs f p within is at left =
      subst (λ (cs : List Change). Left all began now cs)
      (ap (fresh_calls k) (drop_more fs k f within ∙ ap (λ x. x ∷ drop (k + 1) fs) (sym is)) ∙ ap (λ q. fresh_call q f ∷ fresh_calls (k + 1) (drop (k + 1) fs)) (sym at)) left

  pub held_left : (hs : List Held) (h : Held) (p : Names) → k < length hs → h ≡ get_or hs k h → p ≡ staged (held h.number)
      → Left all began now (removals_by (held_items (drop k hs))) → Left all began now ((removal_by h.is_dir p ∷ []) ++ removals_by (held_items (drop (k + 1) hs)))
  held_left hs h p within is at left =
      subst (λ (cs : List Change). Left all began now cs)
      (ap (λ (l : List Held). removals_by (held_items l)) (drop_more hs k h within ∙ ap (λ x. x ∷ drop (k + 1) hs) (sym is)) ∙ ap (λ q. removal_by h.is_dir q ∷ removals_by (held_items (drop (k + 1) hs))) (sym at)) left

pub marked_is : (steps : List Step) (marker next : Names) → do_calls steps ++ synced_rename_calls marker next ≡ marked_calls steps marker next
marked_is steps marker next = sym (append_assoc (do_calls steps) (call.Sync ∷ []) (call.Rename marker next ∷ call.Sync ∷ []))

pub unmarked_is : (steps : List Step) (marker next : Names) → undo_calls steps ++ synced_rename_calls marker next ≡ unmarked_calls steps marker next
unmarked_is steps marker next = sym (append_assoc (undo_calls steps) (call.Sync ∷ []) (call.Rename marker next ∷ call.Sync ∷ []))

-- a step of a group
pub do_left : (all : List Change) (began now : History) (k : ℕ) (steps : List Step) (step : Step) → k < length steps → step ≡ get_or steps k step
    → Left all began now (do_calls (drop k steps)) → Left all began now ((call_of step ∷ []) ++ do_calls (drop (k + 1) steps))
do_left all began now k steps step within is left =
    subst (λ (cs : List Change). Left all began now cs) (ap do_calls (drop_more steps k step within ∙ ap (λ x. x ∷ drop (k + 1) steps) (sym is))) left

undo_calls-push : (front : List Step) (s : Step) → undo_calls (front ++ s ∷ []) ≡ undo_of s ∷ undo_calls front
undo_calls-push [] s = refl
undo_calls-push (x ∷ front) s = ap (λ (l : List Change). l ++ undo_of x ∷ []) (undo_calls-push front s)

-- a step of it undone: i is the place before k
pub undo_left : (all : List Change) (began now : History) (steps : List Step) (k i : ℕ) (step : Step) → k ≡ i + 1 → i < length steps → step ≡ get_or steps i step
    → Left all began now (undo_calls (take k steps)) → Left all began now ((undo_of step ∷ []) ++ undo_calls (take i steps))
undo_left all began now steps k i step at within is left =
    subst (λ (cs : List Change). Left all began now cs)
    (ap undo_calls (ap (λ x. take x steps) at ∙ take_more steps i step within ∙ ap (λ x. take i steps ++ x ∷ []) (sym is)) ∙ undo_calls-push (take i steps) step) left

-- a step that is removed
pub remove_left : (all : List Change) (began now : History) (k : ℕ) (paths : List Names) (p : Names) → k < length paths → p ≡ get_or paths k p
    → Left all began now (remove_calls (drop k paths)) → Left all began now ((call.Remove p ∷ []) ++ remove_calls (drop (k + 1) paths))
remove_left all began now k paths p within is left =
    subst (λ (cs : List Change). Left all began now cs) (ap remove_calls (drop_more paths k p within ∙ ap (λ x. x ∷ drop (k + 1) paths) (sym is))) left

-- ---- two runs, of which the second comes only behind the first

module _ (all cs ds : List Change) (split : cs ++ ds ≡ all) (old : History) where
  pub first_can : CanAll all old → CanAll cs old
  first_can can = can_first old cs ds (subst (λ (l : List Change). CanAll l old) (sym split) can)

  pub first_failed : {T : Type 0} (new : History) (before after : FileTree) (result : Result T CallName) (first : CallName) → result ≡ Err first → FailedIn cs old new after first → Ran all old new before after result
  first_failed new before after result first err failed =
      ran_failed all old new before after result first err (subst (λ (l : List Change). FailedIn l old new after first) split (failed_first cs ds old new after first failed))

  pub second_can : (mid : History) → mid ≡ then_all old cs → CanAll all old → CanAll ds mid
  second_can mid is can = can_behind cs ds old mid mid is (subst (λ (l : List Change). CanAll l old) (sym split) can)

  pub second_ran : {T : Type 0} (mid new : History) (before between after : FileTree) (result : Result T CallName) → mid ≡ then_all old cs → between ≡ before → Ran ds mid new between after result → Ran all old new before after result
  second_ran mid new before between after result is same ran = ran_as (cs ++ ds) all old new before after result split (ran_behind cs ds old mid new is before between after result same ran)
