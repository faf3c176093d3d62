-- Steps undone as looks tell, up to one of which a look tells neither.
use Rattle.std.proofs.Common.{◌≡◌, inl, ℕ, ◌+◌, ◌-◌, ◌<◌, ◌≤◌, List, [], ◌∷◌, ◌++◌, length, take, reverse, get_or, refl, sym, ◌∙◌, ap, subst, arith, append_assoc, Option, Some, None}
use Rattle.std.proofs.lemmas.List.{take_more, take_all, reverse-append, length-reverse, length-take-le}
use Rattle.std.proofs.Math.Seq.{take-append_seam}
use Rattle.tree_core.specs.declared.node.Change.{Change}
use Rattle.tree_core.specs.declared.node.CallName.{CallName}
use Rattle.tree_core.specs.FileTree.{FileTree, done}
use Rattle.tree_core.specs.History.{History, Then, current_tree, next_number}
use Rattle.tree_core.specs.Runs.{then_all, FailedIn, FailedCall}
use Rattle.tree_core.proofs.Runs.{then_all-append, failed_first, failed_rest}
use Rattle.commit_steps.specs.declared.step.Step.{Step}
use Rattle.step_trees.specs.Steps.{undo_of}
use Rattle.commit_states.specs.Calls.{undo_calls}
use Rattle.step_looks.specs.declared.looking.Seen.{Seen}
use Rattle.step_looks.specs.declared.looking.Seen.TheVariants.{Before, After}
use Rattle.step_looks.specs.Looks.{look_back_of}
use Rattle.step_looks.specs.Redoing.{by_look}
use Rattle.step_looks.specs.Strictly.{to_undo_strictly, strange_back}
use Rattle.step_looks.specs.Undoing.{LookedIn}
use Rattle.step_looks.proofs.UndoLemmas.{undo_alike, undo_calls-append}

append_nil : (l : List Step) → l ≡ l ++ []
append_nil [] = refl
append_nil (c ∷ l) = ap (λ (m : List Step). c ∷ m) (append_nil l)

-- Of all the steps, those behind place k were looked at: `later` of them were undone since, and none was strange.
pub record Turning (steps : List Step) (from k : ℕ) (began now : History) : Type 0 where
  pub later : List Step
  pub history : now ≡ then_all began (undo_calls later)
  pub whole : to_undo_strictly (reverse steps) (current_tree began) ≡ to_undo_strictly (reverse (take k steps)) (current_tree now) ++ later
  pub strange : strange_back from (reverse steps) (current_tree began) ≡ strange_back from (reverse (take k steps)) (current_tree now)

pub turning_all : (steps : List Step) (from k : ℕ) (began now : History) → now ≡ began → length steps ≤ k → Turning steps from k began now
turning_all steps from k began now same long =
    let all : take k steps ≡ steps = take_all k steps long in
    record {
      later = [];
      history = same;
      whole = ap (λ (l : List Step). to_undo_strictly (reverse l) (current_tree began)) (sym all) ∙ ap (λ (h : History). to_undo_strictly (reverse (take k steps)) (current_tree h)) (sym same) ∙ append_nil (to_undo_strictly (reverse (take k steps)) (current_tree now));
      strange = ap (λ (l : List Step). strange_back from (reverse l) (current_tree began)) (sym all) ∙ ap (λ (h : History). strange_back from (reverse (take k steps)) (current_tree h)) (sym same);
    }

pub turning_seen : (steps : List Step) (from k : ℕ) (began now new : History) → 0 < k → new ≡ now → Turning steps from k began now → Turning steps from (k - 1 + 1) began new
turning_seen steps from k began now new some same u =
    let e : k ≡ k - 1 + 1 = omega (arith, some) in
    subst (λ n. Turning steps from n began new) e (subst (Turning steps from k began) (sym same) u)

module _ (steps : List Step) (from k : ℕ) (began now : History) (u : Turning steps from k began now) where
  abbrev front : List Step
  front = to_undo_strictly (reverse (take k steps)) (current_tree now)

  calls_are : undo_calls (to_undo_strictly (reverse steps) (current_tree began)) ≡ undo_calls u.later ++ undo_calls front
  calls_are = ap undo_calls u.whole ∙ undo_calls-append front u.later

  -- a look failed
  pub looked_back : (new : History) (before : FileTree) → new ≡ now → before ≡ current_tree now → LookedIn (undo_calls (to_undo_strictly (reverse steps) (current_tree began))) began new before
  looked_back new before same tree = record {
    count = length (undo_calls u.later);
    history = same ∙ u.history ∙ ap (then_all began) (sym (ap (take (length (undo_calls u.later))) calls_are ∙ take-append_seam (undo_calls u.later) (undo_calls front)));
    tree = tree ∙ ap current_tree (sym same);
  }

  -- nothing is left to be undone
  pub turned_by : front ≡ [] → now ≡ then_all began (undo_calls (to_undo_strictly (reverse steps) (current_tree began)))
  turned_by none = u.history ∙ ap (λ (l : List Step). then_all began (undo_calls l)) (ap (λ (l : List Step). l ++ u.later) (sym none) ∙ sym u.whole)

pub turned_all : (steps : List Step) (from : ℕ) (began now : History) → Turning steps from 0 began now → now ≡ then_all began (undo_calls (to_undo_strictly (reverse steps) (current_tree began)))
turned_all steps from began now u = turned_by steps from 0 began now u refl

pub none_strange : (steps : List Step) (from : ℕ) (began now : History) → Turning steps from 0 began now → strange_back from (reverse steps) (current_tree began) ≡ None
none_strange steps from began now u = u.strange

module _ (steps : List Step) (from k : ℕ) (s : Step) (within : k < length steps) (is : s ≡ get_or steps k s) (began now : History) (u : Turning steps from (k + 1) began now) where
  abbrev t : FileTree
  t = current_tree now

  abbrev rest : List Step
  rest = reverse (take k steps)

  abbrev undone_tree : FileTree
  undone_tree = done (undo_of s) 0 t

  next : reverse (take (k + 1) steps) ≡ s ∷ rest
  next = ap (λ (l : List Step). reverse l) (take_more steps k s within ∙ ap (λ x. take k steps ++ x ∷ []) (sym is)) ∙ reverse-append (take k steps) (s ∷ [])

  whole_by : (o : Option Seen) → look_back_of s t ≡ o → to_undo_strictly (reverse steps) (current_tree began) ≡ by_look o (to_undo_strictly rest t) (to_undo_strictly rest undone_tree ++ s ∷ []) [] ++ u.later
  whole_by o e = u.whole ∙ ap (λ (l : List Step). to_undo_strictly l t ++ u.later) next ∙ ap (λ x. by_look x (to_undo_strictly rest t) (to_undo_strictly rest undone_tree ++ s ∷ []) [] ++ u.later) e

  strange_by : (o : Option Seen) → look_back_of s t ≡ o → strange_back from (reverse steps) (current_tree began) ≡ by_look o (strange_back from rest t) (strange_back from rest undone_tree) (Some (from + length rest))
  strange_by o e = u.strange ∙ ap (λ (l : List Step). strange_back from l t) next ∙ ap (λ x. by_look x (strange_back from rest t) (strange_back from rest undone_tree) (Some (from + length rest))) e

  -- it is still to be done
  pub turning_left : look_back_of s t ≡ Some Before → Turning steps from k began now
  turning_left e = record { later = u.later; history = u.history; whole = whole_by (Some Before) e; strange = strange_by (Some Before) e }

  -- neither
  pub strange_place : look_back_of s t ≡ None → strange_back from (reverse steps) (current_tree began) ≡ Some (from + k)
  strange_place e =
      let count : length rest ≡ k = length-reverse (take k steps) ∙ length-take-le k steps (omega arith) in
      strange_by None e ∙ ap (λ n. Some (from + n)) count

  pub turned_here : look_back_of s t ≡ None → now ≡ then_all began (undo_calls (to_undo_strictly (reverse steps) (current_tree began)))
  turned_here e = u.history ∙ ap (λ (l : List Step). then_all began (undo_calls l)) (sym (whole_by None e))

  -- it was done, and is undone
  module _ (e : look_back_of s t ≡ Some After) where
    whole_next : to_undo_strictly (reverse steps) (current_tree began) ≡ to_undo_strictly rest undone_tree ++ s ∷ u.later
    whole_next = whole_by (Some After) e ∙ append_assoc (to_undo_strictly rest undone_tree) (s ∷ []) u.later

    pub turning_next : Turning steps from k began (Then now (undo_of s))
    turning_next = record {
      later = s ∷ u.later;
      history = ap (λ (h : History). Then h (undo_of s)) u.history ∙ sym (then_all-append began (undo_calls u.later) (undo_of s ∷ []));
      whole = whole_next ∙ ap (λ x. to_undo_strictly rest x ++ s ∷ u.later) (sym (undo_alike s (next_number now) t));
      strange = strange_by (Some After) e ∙ ap (strange_back from rest) (sym (undo_alike s (next_number now) t));
    }

    pub turn_failed : (new : History) (before : FileTree) (first : CallName) → FailedCall (undo_of s) now new before first → FailedIn (undo_calls (to_undo_strictly (reverse steps) (current_tree began))) began new before first
    turn_failed new before first failed =
        let calls : undo_calls (to_undo_strictly (reverse steps) (current_tree began)) ≡ (undo_calls u.later ++ undo_of s ∷ []) ++ undo_calls (to_undo_strictly rest undone_tree) = ap undo_calls whole_next ∙ undo_calls-append (to_undo_strictly rest undone_tree) (s ∷ u.later) in
        let here : FailedIn (undo_of s ∷ []) (then_all began (undo_calls u.later)) new before first = inl (subst (λ (h : History). FailedCall (undo_of s) h new before first) u.history failed) in
        subst (λ (l : List Change). FailedIn l began new before first) (sym calls)
        (failed_first (undo_calls u.later ++ undo_of s ∷ []) (undo_calls (to_undo_strictly rest undone_tree)) began new before first
        (failed_rest (undo_calls u.later) (undo_of s ∷ []) began new before first here))

pub other_before : (o : Option Seen) (seen : Seen) → o ≡ Some seen → (seen ≡ After → ⊥) → o ≡ Some Before
other_before o After is other = absurd (other refl)
other_before o Before is other = is
