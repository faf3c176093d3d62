-- Steps done as looks tell.
use Rattle.std.proofs.Common.{◌≡◌, inl, ℕ, ◌+◌, ◌<◌, Bool, true, false, List, [], ◌∷◌, ◌++◌, length, take, drop, get_or, refl, sym, ◌∙◌, ap, subst, arith, append_assoc, Option, Some, None}
use Rattle.std.proofs.lemmas.List.{drop_more}
use Rattle.std.proofs.Math.Seq.{take-append_seam}
use Rattle.tree_core.specs.declared.node.Change.{Change}
use Rattle.tree_core.specs.declared.node.CallName.{CallName}
use Rattle.tree_core.specs.FileTree.{FileTree, CanDo, done}
use Rattle.tree_core.specs.History.{History, Then, current_tree, next_number}
use Rattle.tree_core.specs.Runs.{then_all, FailedIn, FailedCall}
use Rattle.tree_core.proofs.Runs.{then_all-append, failed_first, failed_rest}
use Rattle.commit_steps.specs.declared.step.Step.{Step}
use Rattle.commit_steps.specs.declared.step.Step.TheVariants.{MakeDir, Rename, Mode}
use Rattle.step_trees.specs.Steps.{call_of, step_done, IsStep}
use Rattle.step_trees.proofs.StepLemmas.{can_step}
use Rattle.commit_states.specs.Calls.{do_calls}
use Rattle.step_looks.specs.declared.looking.Seen.{Seen}
use Rattle.step_looks.specs.declared.looking.Seen.TheVariants.{Before, After}
use Rattle.step_looks.specs.Looks.{is_before, is_after, seen_by, look_of}
use Rattle.step_looks.specs.Redoing.{by_look, to_redo, strange_redo}
use Rattle.step_looks.specs.Undoing.{LookedIn}
use Rattle.step_looks.proofs.TestLemmas.{before_is}

do_alike : (s : Step) (n : ℕ) (t : FileTree) → done (call_of s) n t ≡ step_done s t
do_alike (MakeDir p) n t = refl
do_alike (Rename from to) n t = refl
do_alike (Mode p old new) n t = refl

do_calls-append : (xs ys : List Step) → do_calls (xs ++ ys) ≡ do_calls xs ++ do_calls ys
do_calls-append [] ys = refl
do_calls-append (x ∷ xs) ys = ap (λ (l : List Change). call_of x ∷ l) (do_calls-append xs ys)

-- what a look tells is still to be done can be done
pub can_do_before : (s : Step) (t : FileTree) → IsStep s → look_of s t ≡ Some Before → CanDo (call_of s) t
can_do_before s t lawful seen = can_step s t lawful (before_is s t (by_tests (is_before s t) (is_after s t) seen))
  where
    by_tests : (a b : Bool) → seen_by a b ≡ Some Before → a ≡ true
    by_tests true b e = refl
    by_tests false true e = cc
    by_tests false false e = cc

-- Of all the steps, numbered from `from` on, the first k were looked at: `earlier` of them were done since.
pub record Redoing (steps : List Step) (from k : ℕ) (began now : History) : Type 0 where
  pub earlier : List Step
  pub history : now ≡ then_all began (do_calls earlier)
  pub whole : to_redo steps (current_tree began) ≡ earlier ++ to_redo (drop k steps) (current_tree now)
  pub strange : strange_redo from steps (current_tree began) ≡ strange_redo (from + k) (drop k steps) (current_tree now)

pub redoing_all : (steps : List Step) (from : ℕ) (began now : History) → now ≡ began → Redoing steps from 0 began now
redoing_all steps from began now same = record {
  earlier = [];
  history = same;
  whole = ap (λ (h : History). to_redo steps (current_tree h)) (sym same);
  strange = ap (λ (h : History). strange_redo from steps (current_tree h)) (sym same) ∙ ap (λ n. strange_redo n steps (current_tree now)) (omega arith);
}

pub redoing_seen : (steps : List Step) (from k : ℕ) (began now new : History) → new ≡ now → Redoing steps from k began now → Redoing steps from k began new
redoing_seen steps from k began now new same u = subst (Redoing steps from k began) (sym same) u

module _ (steps : List Step) (from k : ℕ) (began now : History) (u : Redoing steps from k began now) where
  abbrev rest : List Step
  rest = to_redo (drop k steps) (current_tree now)

  calls_are : do_calls (to_redo steps (current_tree began)) ≡ do_calls u.earlier ++ do_calls rest
  calls_are = ap do_calls u.whole ∙ do_calls-append u.earlier rest

  -- a look failed
  pub looked_on : (new : History) (before : FileTree) → new ≡ now → before ≡ current_tree now → LookedIn (do_calls (to_redo steps (current_tree began))) began new before
  looked_on new before same tree = record {
    count = length (do_calls u.earlier);
    history = same ∙ u.history ∙ ap (then_all began) (sym (ap (take (length (do_calls u.earlier))) calls_are ∙ take-append_seam (do_calls u.earlier) (do_calls rest)));
    tree = tree ∙ ap current_tree (sym same);
  }

  -- nothing is left to be done
  pub redone_by : rest ≡ [] → now ≡ then_all began (do_calls (to_redo steps (current_tree began)))
  redone_by none = u.history ∙ ap (λ (l : List Step). then_all began (do_calls l)) (append_nil u.earlier ∙ ap (λ (l : List Step). u.earlier ++ l) (sym none) ∙ sym u.whole)
    where
      append_nil : (l : List Step) → l ≡ l ++ []
      append_nil [] = refl
      append_nil (c ∷ l) = ap (λ (m : List Step). c ∷ m) (append_nil l)

module _ (steps : List Step) (from k : ℕ) (s : Step) (within : k < length steps) (is : s ≡ get_or steps k s) (began now : History) (u : Redoing steps from k began now) where
  abbrev t : FileTree
  t = current_tree now

  abbrev behind : List Step
  behind = drop (k + 1) steps

  next : drop k steps ≡ s ∷ behind
  next = drop_more steps k s within ∙ ap (λ x. x ∷ behind) (sym is)

  place : from + k + 1 ≡ from + (k + 1)
  place = omega arith

  whole_by : (o : Option Seen) → look_of s t ≡ o → to_redo steps (current_tree began) ≡ u.earlier ++ by_look o (s ∷ to_redo behind (step_done s t)) (to_redo behind t) []
  whole_by o e = u.whole ∙ ap (λ (l : List Step). u.earlier ++ to_redo l t) next ∙ ap (λ x. u.earlier ++ by_look x (s ∷ to_redo behind (step_done s t)) (to_redo behind t) []) e

  strange_by : (o : Option Seen) → look_of s t ≡ o → strange_redo from steps (current_tree began) ≡ by_look o (strange_redo (from + k + 1) behind (step_done s t)) (strange_redo (from + k + 1) behind t) (Some (from + k))
  strange_by o e = u.strange ∙ ap (λ (l : List Step). strange_redo (from + k) l t) next ∙ ap (λ x. by_look x (strange_redo (from + k + 1) behind (step_done s t)) (strange_redo (from + k + 1) behind t) (Some (from + k))) e

  -- it was done
  pub redoing_left : look_of s t ≡ Some After → Redoing steps from (k + 1) began now
  redoing_left e = record {
    earlier = u.earlier;
    history = u.history;
    whole = whole_by (Some After) e;
    strange = strange_by (Some After) e ∙ ap (λ n. strange_redo n behind t) place;
  }

  -- neither
  pub strange_here : look_of s t ≡ None → strange_redo from steps (current_tree began) ≡ Some (from + k)
  strange_here e = strange_by None e

  pub none_left : look_of s t ≡ None → to_redo (drop k steps) t ≡ []
  none_left e = ap (λ (l : List Step). to_redo l t) next ∙ ap (λ x. by_look x (s ∷ to_redo behind (step_done s t)) (to_redo behind t) []) e

  -- still to be done, and done
  module _ (e : look_of s t ≡ Some Before) where
    whole_next : to_redo steps (current_tree began) ≡ (u.earlier ++ s ∷ []) ++ to_redo behind (step_done s t)
    whole_next = whole_by (Some Before) e ∙ sym (append_assoc u.earlier (s ∷ []) (to_redo behind (step_done s t)))

    calls_next : do_calls (u.earlier ++ s ∷ []) ≡ do_calls u.earlier ++ call_of s ∷ []
    calls_next = do_calls-append u.earlier (s ∷ [])

    pub redoing_next : Redoing steps from (k + 1) began (Then now (call_of s))
    redoing_next = record {
      earlier = u.earlier ++ s ∷ [];
      history = ap (λ (h : History). Then h (call_of s)) u.history ∙ sym (then_all-append began (do_calls u.earlier) (call_of s ∷ [])) ∙ ap (then_all began) (sym calls_next);
      whole = whole_next ∙ ap (λ x. (u.earlier ++ s ∷ []) ++ to_redo behind x) (sym (do_alike s (next_number now) t));
      strange = strange_by (Some Before) e ∙ ap (λ n. strange_redo n behind (step_done s t)) place ∙ ap (strange_redo (from + (k + 1)) behind) (sym (do_alike s (next_number now) t));
    }

    pub redo_failed : (new : History) (before : FileTree) (first : CallName) → FailedCall (call_of s) now new before first → FailedIn (do_calls (to_redo steps (current_tree began))) began new before first
    redo_failed new before first failed =
        let calls : do_calls (to_redo steps (current_tree began)) ≡ (do_calls u.earlier ++ call_of s ∷ []) ++ do_calls (to_redo behind (step_done s t)) =
        ap do_calls whole_next ∙ do_calls-append (u.earlier ++ s ∷ []) (to_redo behind (step_done s t)) ∙ ap (λ (l : List Change). l ++ do_calls (to_redo behind (step_done s t))) calls_next in
        let here : FailedIn (call_of s ∷ []) (then_all began (do_calls u.earlier)) new before first = inl (subst (λ (h : History). FailedCall (call_of s) h new before first) u.history failed) in
        subst (λ (l : List Change). FailedIn l began new before first) (sym calls)
        (failed_first (do_calls u.earlier ++ call_of s ∷ []) (do_calls (to_redo behind (step_done s t))) began new before first
        (failed_rest (do_calls u.earlier) (call_of s ∷ []) began new before first here))

pub other_seen : (o : Option Seen) (seen : Seen) → o ≡ Some seen → (seen ≡ Before → ⊥) → o ≡ Some After
other_seen o Before is other = absurd (other refl)
other_seen o After is other = is
