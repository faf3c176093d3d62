-- What looks at steps tell together, step by step.
use Rattle.std.proofs.Common.{◌≡◌, ℕ, ◌+◌, ◌≤◌, ◌<◌, ◌||◌, Bool, true, false, List, ◌∷◌, drop, length, get_or, refl, sym, ◌∙◌, ap, Option, Some, None, arith}
use Rattle.std.proofs.lemmas.List.{drop_all, drop_more}
use Rattle.commit_steps.specs.declared.step.Step.{Step}
use Rattle.recovery_calls.specs.declared.turning.Looked.{Looked}
use Rattle.recovery_calls.specs.declared.turning.Looked.TheVariants.{Strange, NoneDone, SomeDone}
use Rattle.recovery_calls.specs.Looked.{looked_by, looked_of}
use Rattle.step_looks.specs.declared.looking.Seen.{Seen}
use Rattle.step_looks.specs.declared.looking.Seen.TheVariants.{Before, After}
use Rattle.step_looks.specs.Looks.{can_go_back, is_before, look_back_of, seen_by}
use Rattle.step_looks.specs.Redoing.{by_look}
use Rattle.step_looks.specs.Strictly.{strange_look}
use Rattle.step_looks.specs.Undoing.{any_goes_back}
use Rattle.step_looks.proofs.TestLemmas.{not_both_tests, told_back}
use Rattle.step_trees.specs.Steps.{IsStep}
use Rattle.tree_core.specs.FileTree.{FileTree}

-- what steps tell, where of those before them none is strange, and some were done or none
abbrev pub with_some : Bool → Looked → Looked
with_some false more = more
with_some true (Strange k) = Strange k
with_some true NoneDone = SomeDone
with_some true SomeDone = SomeDone

pub with_strange : (b : Bool) (k : ℕ) → with_some b (Strange k) ≡ Strange k
with_strange true k = refl
with_strange false k = refl

pub with_done : (b : Bool) (more : Looked) → with_some b (with_some true more) ≡ with_some true more
with_done false more = refl
with_done true (Strange k) = refl
with_done true NoneDone = refl
with_done true SomeDone = refl

module _ (s : Step) (t : FileTree) (lawful : IsStep s) where
  told_before : look_back_of s t ≡ Some Before → can_go_back s t ≡ false
  told_before told = by_test (can_go_back s t) refl
    where
      by_seen : (a : Bool) → seen_by a (can_go_back s t) ≡ Some Before → a ≡ false → can_go_back s t ≡ true → can_go_back s t ≡ false
      by_seen true e is yes_is = cc
      by_seen false e is yes_is = let f : seen_by false true ≡ Some Before = sym (ap (seen_by false) yes_is) ∙ e in cc

      by_test : (b : Bool) → can_go_back s t ≡ b → can_go_back s t ≡ false
      by_test true e = by_seen (is_before s t) told (not_both_tests s t lawful e) e
      by_test false e = e

  module _ (k : ℕ) (steps : List Step) where
    looked_by_seen : (o : Option Seen) (b : Bool) → look_back_of s t ≡ o → can_go_back s t ≡ b
        → looked_of k (s ∷ steps) t ≡ looked_by (by_look o (strange_look (k + 1) steps t) (strange_look (k + 1) steps t) (Some k)) (b || any_goes_back steps t)
    looked_by_seen o b eo eb =
        ap (λ x. looked_by (by_look x (strange_look (k + 1) steps t) (strange_look (k + 1) steps t) (Some k)) (can_go_back s t || any_goes_back steps t)) eo
        ∙ ap (λ x. looked_by (by_look o (strange_look (k + 1) steps t) (strange_look (k + 1) steps t) (Some k)) (x || any_goes_back steps t)) eb

    pub looked_strange : look_back_of s t ≡ None → looked_of k (s ∷ steps) t ≡ Strange k
    looked_strange told = looked_by_seen None (can_go_back s t) told refl

    pub looked_left : look_back_of s t ≡ Some Before → looked_of k (s ∷ steps) t ≡ looked_of (k + 1) steps t
    looked_left told = looked_by_seen (Some Before) false told (told_before told)

    pub looked_done : look_back_of s t ≡ Some After → looked_of k (s ∷ steps) t ≡ with_some true (looked_of (k + 1) steps t)
    looked_done told = looked_by_seen (Some After) true told (told_back s t lawful told) ∙ by_more (strange_look (k + 1) steps t) (any_goes_back steps t)
      where
        by_more : (o : Option ℕ) (b : Bool) → looked_by o true ≡ with_some true (looked_by o b)
        by_more (Some j) b = refl
        by_more None true = refl
        by_more None false = refl

-- in a loop
module _ (steps : List Step) (from k : ℕ) (s : Step) (t : FileTree) (within : k < length steps) (is : s ≡ get_or steps k s) (lawful : IsStep s) where
  next : drop k steps ≡ s ∷ drop (k + 1) steps
  next = drop_more steps k s within ∙ ap (λ x. x ∷ drop (k + 1) steps) (sym is)

  place : from + k + 1 ≡ from + (k + 1)
  place = omega arith

  pub all_strange : look_back_of s t ≡ None → looked_of (from + k) (drop k steps) t ≡ Strange (from + k)
  all_strange told = ap (λ (l : List Step). looked_of (from + k) l t) next ∙ looked_strange s t lawful (from + k) (drop (k + 1) steps) told

  pub all_left : look_back_of s t ≡ Some Before → looked_of (from + k) (drop k steps) t ≡ looked_of (from + (k + 1)) (drop (k + 1) steps) t
  all_left told =
      ap (λ (l : List Step). looked_of (from + k) l t) next ∙ looked_left s t lawful (from + k) (drop (k + 1) steps) told
      ∙ ap (λ n. looked_of n (drop (k + 1) steps) t) place

  pub all_done : look_back_of s t ≡ Some After → looked_of (from + k) (drop k steps) t ≡ with_some true (looked_of (from + (k + 1)) (drop (k + 1) steps) t)
  all_done told =
      ap (λ (l : List Step). looked_of (from + k) l t) next ∙ looked_done s t lawful (from + k) (drop (k + 1) steps) told
      ∙ ap (λ n. with_some true (looked_of n (drop (k + 1) steps) t)) place

pub all_seen : (steps : List Step) (k n : ℕ) (t : FileTree) → length steps ≤ k → looked_of n (drop k steps) t ≡ NoneDone
all_seen steps k n t long = ap (λ (l : List Step). looked_of n l t) (drop_all k steps long)
