-- Steps that can be done one behind the other.
use Rattle.std.specs.Prelude.{List, [], ◌∷◌}
use Rattle.tree_core.specs.FileTree.{FileTree}
use Rattle.commit_steps.specs.declared.step.Step.{Step}
use Rattle.commit_steps.specs.Steps.{IsLawfulStep}
use Rattle.step_trees.specs.Leads.{HoldsEntries}
use Rattle.step_trees.specs.Steps.{step_done, IsBefore}

-- each step is lawful and before, and each tree on the way, the last one too, holds only entries
abbrev pub IsRun : FileTree → List Step → Type 0
IsRun t [] = HoldsEntries t
IsRun t (step ∷ steps) = HoldsEntries t × IsLawfulStep step × IsBefore step t × IsRun (step_done step t) steps
