-- Steps undone as looks tell.
use Rattle.std.proofs.Common.{◌≡◌, inl, inr, ℕ, zero, suc, ◌+◌, ◌-◌, ◌<◌, Result, Err, Bool, true, false, List, [], ◌∷◌, ◌++◌, length, take, map, get_or, refl, sym, ◌∙◌, ap, subst, arith, append_assoc}
use Rattle.std.proofs.lemmas.List.{take_more}
use Rattle.std.proofs.Math.Seq.{take-append_seam}
use Rattle.std.specs.List.{AllByRecursion}
use Rattle.tree_core.specs.declared.node.Change.{Change}
use Rattle.tree_core.specs.declared.node.CallName.{CallName}
use Rattle.tree_core.specs.FileTree.{FileTree, done}
use Rattle.tree_core.specs.History.{History, Then, current_tree, next_number}
use Rattle.tree_core.specs.Runs.{then_all, FailedIn, FailedCall}
use Rattle.tree_core.proofs.Runs.{then_all-append, failed_first, failed_rest}
use Rattle.commit_steps.specs.declared.step.Step.{Step}
use Rattle.commit_steps.specs.declared.step.Step.TheVariants.{MakeDir, Rename, Mode}
use Rattle.step_trees.specs.Steps.{undo_of, IsStep}
use Rattle.commit_states.specs.Calls.{undo_calls}
use Rattle.step_looks.specs.Looks.{can_go_back, parents_of, AreParents}
use Rattle.step_looks.specs.declared.parent_paths.Parents.{Parents}
use Rattle.step_looks.specs.Undoing.{undone, and_where, to_undo, LookedIn, RanOrLooked}

-- no step writes a file, so the next file number doesn't matter
pub undo_alike : (s : Step) (n : ℕ) (t : FileTree) → done (undo_of s) n t ≡ done (undo_of s) 0 t
undo_alike (MakeDir p) n t = refl
undo_alike (Rename from to) n t = refl
undo_alike (Mode p old new) n t = refl

-- the last one first
pub undone-push : (steps : List Step) (s : Step) (t : FileTree) → undone (steps ++ s ∷ []) t ≡ undone steps (done (undo_of s) 0 t)
undone-push [] s t = refl
undone-push (x ∷ steps) s t = ap (done (undo_of x) 0) (undone-push steps s t)

pub and_where-push : (b : Bool) (x : Step) (steps more : List Step) → and_where b x (steps ++ more) ≡ and_where b x steps ++ more
and_where-push true x steps more = refl
and_where-push false x steps more = refl

pub to_undo-yes : (steps : List Step) (s : Step) (t : FileTree) → can_go_back s t ≡ true → to_undo (steps ++ s ∷ []) t ≡ to_undo steps (done (undo_of s) 0 t) ++ s ∷ []
to_undo-yes [] s t yes_is = ap (λ b. and_where b s []) yes_is
to_undo-yes (x ∷ steps) s t yes_is =
    let more = to_undo-yes steps s t yes_is in
    let tree : undone (to_undo (steps ++ s ∷ []) t) t ≡ undone (to_undo steps (done (undo_of s) 0 t)) (done (undo_of s) 0 t) = ap (λ (l : List Step). undone l t) more ∙ undone-push (to_undo steps (done (undo_of s) 0 t)) s t in
    ap (λ u. and_where (can_go_back x u) x (to_undo (steps ++ s ∷ []) t)) tree
    ∙ ap (λ (l : List Step). and_where (can_go_back x (undone (to_undo steps (done (undo_of s) 0 t)) (done (undo_of s) 0 t))) x l) more
    ∙ and_where-push (can_go_back x (undone (to_undo steps (done (undo_of s) 0 t)) (done (undo_of s) 0 t))) x (to_undo steps (done (undo_of s) 0 t)) (s ∷ [])

pub to_undo-no : (steps : List Step) (s : Step) (t : FileTree) → can_go_back s t ≡ false → to_undo (steps ++ s ∷ []) t ≡ to_undo steps t
to_undo-no [] s t no_is = ap (λ b. and_where b s []) no_is
to_undo-no (x ∷ steps) s t no_is = ap (λ (l : List Step). and_where (can_go_back x (undone l t)) x l) (to_undo-no steps s t no_is)

pub undo_calls-append : (xs ys : List Step) → undo_calls (xs ++ ys) ≡ undo_calls ys ++ undo_calls xs
undo_calls-append [] ys = append_nil (undo_calls ys)
  where
    append_nil : (l : List Change) → l ≡ l ++ []
    append_nil [] = refl
    append_nil (c ∷ l) = ap (λ (m : List Change). c ∷ m) (append_nil l)
undo_calls-append (x ∷ xs) ys = ap (λ (l : List Change). l ++ undo_of x ∷ []) (undo_calls-append xs ys) ∙ append_assoc (undo_calls ys) (undo_calls xs) (undo_of x ∷ [])

-- ---- the loop

-- Of all the steps, those behind place k were looked at: `later` of them were undone since.
pub record Undoing (steps : List Step) (k : ℕ) (began now : History) : Type 0 where
  pub later : List Step
  pub history : now ≡ then_all began (undo_calls later)
  pub whole : to_undo steps (current_tree began) ≡ to_undo (take k steps) (current_tree now) ++ later

module _ (steps : List Step) (k : ℕ) (began now : History) (u : Undoing steps k began now) where
  abbrev front : List Step
  front = to_undo (take k steps) (current_tree now)

  calls_are : undo_calls (to_undo steps (current_tree began)) ≡ undo_calls u.later ++ undo_calls front
  calls_are = ap undo_calls u.whole ∙ undo_calls-append front u.later

  -- a look failed
  pub looked_in : (new : History) (before : FileTree) → new ≡ now → before ≡ current_tree now → LookedIn (undo_calls (to_undo steps (current_tree began))) began new before
  looked_in new before same tree = record {
    count = length (undo_calls u.later);
    history = same ∙ u.history ∙ ap (then_all began) (sym (ap (take (length (undo_calls u.later))) calls_are ∙ take-append_seam (undo_calls u.later) (undo_calls front)));
    tree = tree ∙ ap current_tree (sym same);
  }

module _ (steps : List Step) (k : ℕ) (s : Step) (within : k < length steps) (is : s ≡ get_or steps k s) (began now : History) (u : Undoing steps (k + 1) began now) where
  next : take (k + 1) steps ≡ take k steps ++ s ∷ []
  next = take_more steps k s within ∙ ap (λ x. take k steps ++ x ∷ []) (sym is)

  -- the step is left
  pub undoing_left : can_go_back s (current_tree now) ≡ false → Undoing steps k began now
  undoing_left no_is = record {
    later = u.later;
    history = u.history;
    whole = u.whole ∙ ap (λ (l : List Step). to_undo l (current_tree now) ++ u.later) next ∙ ap (λ (l : List Step). l ++ u.later) (to_undo-no (take k steps) s (current_tree now) no_is);
  }

  -- or undone
  module _ (yes_is : can_go_back s (current_tree now) ≡ true) where
    abbrev behind : FileTree
    behind = done (undo_of s) 0 (current_tree now)

    whole_next : to_undo steps (current_tree began) ≡ to_undo (take k steps) behind ++ s ∷ u.later
    whole_next = u.whole ∙ ap (λ (l : List Step). to_undo l (current_tree now) ++ u.later) next ∙ ap (λ (l : List Step). l ++ u.later) (to_undo-yes (take k steps) s (current_tree now) yes_is)
        ∙ append_assoc (to_undo (take k steps) behind) (s ∷ []) u.later

    pub undoing_next : Undoing steps k began (Then now (undo_of s))
    undoing_next = record {
      later = s ∷ u.later;
      history = ap (λ (h : History). Then h (undo_of s)) u.history ∙ sym (then_all-append began (undo_calls u.later) (undo_of s ∷ []));
      whole = whole_next ∙ ap (λ x. to_undo (take k steps) x ++ s ∷ u.later) (sym (undo_alike s (next_number now) (current_tree now)));
    }

    pub undo_failed : (new : History) (before : FileTree) (first : CallName) → FailedCall (undo_of s) now new before first → FailedIn (undo_calls (to_undo steps (current_tree began))) began new before first
    undo_failed new before first failed =
        let calls : undo_calls (to_undo steps (current_tree began)) ≡ (undo_calls u.later ++ undo_of s ∷ []) ++ undo_calls (to_undo (take k steps) behind) = ap undo_calls whole_next ∙ undo_calls-append (to_undo (take k steps) behind) (s ∷ u.later) in
        let here : FailedIn (undo_of s ∷ []) (then_all began (undo_calls u.later)) new before first = inl (subst (λ (h : History). FailedCall (undo_of s) h new before first) u.history failed) in
        subst (λ (l : List Change). FailedIn l began new before first) (sym calls)
        (failed_first (undo_calls u.later ++ undo_of s ∷ []) (undo_calls (to_undo (take k steps) behind)) began new before first
        (failed_rest (undo_calls u.later) (undo_of s ∷ []) began new before first here))

-- none were looked at so far
pub undoing_all : (steps : List Step) (k : ℕ) (began now : History) → now ≡ began → take k steps ≡ steps → Undoing steps k began now
undoing_all steps k began now same all = record {
  later = [];
  history = same;
  whole = ap (λ (l : List Step). to_undo l (current_tree began)) (sym all) ∙ ap (λ (h : History). to_undo (take k steps) (current_tree h)) (sym same) ∙ append_nil (to_undo (take k steps) (current_tree now));
}
  where
    append_nil : (l : List Step) → l ≡ l ++ []
    append_nil [] = refl
    append_nil (c ∷ l) = ap (λ (m : List Step). c ∷ m) (append_nil l)

-- all were
pub undoing_end : (steps : List Step) (began now : History) → Undoing steps 0 began now → now ≡ then_all began (undo_calls (to_undo steps (current_tree began)))
undoing_end steps began now u = u.history ∙ ap (λ (l : List Step). then_all began (undo_calls l)) (sym u.whole)

-- ---- the items

pub step_of : (steps : List Step) (k : ℕ) (s : Step) → k < length steps → s ≡ get_or steps k s → AllByRecursion IsStep steps → IsStep s
step_of [] k s within is all = absurd (omega arith)
step_of (x ∷ steps) zero s within is all = subst IsStep (sym is) all.0
step_of (x ∷ steps) (suc k) s within is all = step_of steps k s (omega arith) is all.1

pub parents_at : (steps : List Step) (parents : List Parents) (k : ℕ) (s : Step) (p : Parents) → k < length steps → AreParents steps parents → s ≡ get_or steps k s → p ≡ get_or parents k p → p ≡ parents_of s
parents_at steps parents k s p within are s_is p_is = p_is ∙ ap (λ (l : List Parents). get_or l k p) are ∙ by_place steps k within s_is
  where
    by_place : (steps : List Step) (k : ℕ) → k < length steps → s ≡ get_or steps k s → get_or (map parents_of steps) k p ≡ parents_of s
    by_place [] k within is = absurd (omega arith)
    by_place (x ∷ steps) zero within is = ap parents_of (sym is)
    by_place (x ∷ steps) (suc k) within is = by_place steps k (omega arith) is

-- ---- behind a look

-- which left the tree
pub undoing_seen : (steps : List Step) (k : ℕ) (began now new : History) → 0 < k → new ≡ now → Undoing steps k began now → Undoing steps (k - 1 + 1) began new
undoing_seen steps k began now new some same u =
    let e : k ≡ k - 1 + 1 = omega (arith, some) in
    subst (λ n. Undoing steps n began new) e (subst (Undoing steps k began) (sym same) u)

-- an error that a look told
pub ran_looked : {T : Type 0} (calls : List Change) (old new : History) (before after : FileTree) (result : Result T CallName) (first : CallName) → result ≡ Err first → LookedIn calls old new after → RanOrLooked calls old new before after result
ran_looked calls old new before after result first is looked = subst (RanOrLooked calls old new before after) (sym is) (inr looked)

-- or a call
pub ran_failed : {T : Type 0} (calls : List Change) (old new : History) (before after : FileTree) (result : Result T CallName) (first : CallName) → result ≡ Err first → FailedIn calls old new after first → RanOrLooked calls old new before after result
ran_failed calls old new before after result first is failed = subst (RanOrLooked calls old new before after) (sym is) (inl failed)
