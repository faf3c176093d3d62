-- Steps done as looks tell, up to the first of which a look tells neither.
use Rattle.std.specs.Prelude.{ℕ, ◌+◌, List, [], ◌∷◌, Option, Some, None}
use Rattle.tree_core.specs.FileTree.{FileTree}
use Rattle.commit_steps.specs.declared.step.Step.{Step}
use Rattle.step_trees.specs.Steps.{step_done}
use Rattle.step_looks.specs.declared.looking.Seen.{Seen}
use Rattle.step_looks.specs.declared.looking.Seen.TheVariants.{Before, After}
use Rattle.step_looks.specs.Looks.{look_of}

-- this where a look tells that the step is still to be done, that where it was done, and else the last
abbrev pub by_look : {X : Type 0} → Option Seen → X → X → X → X
by_look (Some Before) before behind neither = before
by_look (Some After) before behind neither = behind
by_look None before behind neither = neither

-- from the first to the last, the steps that a look tells are still to be done, in the tree with the earlier ones done
abbrev pub to_redo : List Step → FileTree → List Step
to_redo [] t = []
to_redo (s ∷ steps) t = by_look (look_of s t) (s ∷ to_redo steps (step_done s t)) (to_redo steps t) []

-- the number of the first of which a look tells neither, where they are numbered from k on
abbrev pub strange_redo : ℕ → List Step → FileTree → Option ℕ
strange_redo k [] t = None
strange_redo k (s ∷ steps) t = by_look (look_of s t) (strange_redo (k + 1) steps (step_done s t)) (strange_redo (k + 1) steps t) (Some k)
