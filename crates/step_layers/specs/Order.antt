-- Steps in another order.
use Rattle.std.specs.Prelude.{◌≡◌, ℕ, List, [], ◌∷◌, ◌++◌, Option, Some}
use Rattle.std.specs.List.{AllByRecursion}
use Rattle.tree_core.specs.FileTree.{FileTree}
use Rattle.commit_steps.specs.declared.step.Step.{Step}
use Rattle.step_trees.specs.Apart.{AreApart}
use Rattle.step_trees.specs.Leads.{file_of}
use Rattle.step_trees.specs.Steps.{step_done}

-- The same steps, in an order in which each two that name related paths stand as before: of the first step and those that come to
-- stand before it no paths are related, and so on with the others.
pub data KeepsOrder : List Step → List Step → Type 0 where
  none : KeepsOrder [] []
  placed : (s : Step) (steps before behind : List Step) → AllByRecursion (AreApart s) before → KeepsOrder steps (before ++ behind) → KeepsOrder (s ∷ steps) (before ++ s ∷ behind)

-- none of these steps sets the mode of this file, each in the tree of its turn
abbrev pub SetNever : FileTree → Option ℕ → List Step → Type 0
SetNever t file [] = Unit {0}
SetNever t file (s ∷ steps) = ((n : ℕ) → file ≡ Some n → file_of t s ≡ Some n → ⊥) × SetNever (step_done s t) file steps

-- no two of them set the mode of one file
abbrev pub SetOnce : FileTree → List Step → Type 0
SetOnce t [] = Unit {0}
SetOnce t (s ∷ steps) = SetNever (step_done s t) (file_of t s) steps × SetOnce (step_done s t) steps
