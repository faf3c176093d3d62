-- What looks at steps tell together.
use Rattle.std.specs.Prelude.{ℕ, Bool, true, false, List, Option, Some, None}
use Rattle.commit_steps.specs.declared.step.Step.{Step}
use Rattle.recovery_calls.specs.declared.turning.Looked.{Looked}
use Rattle.recovery_calls.specs.declared.turning.Looked.TheVariants.{Strange, NoneDone, SomeDone}
use Rattle.step_looks.specs.Strictly.{strange_look}
use Rattle.step_looks.specs.Undoing.{any_goes_back}
use Rattle.tree_core.specs.FileTree.{FileTree}

abbrev pub looked_by : Option ℕ → Bool → Looked
looked_by (Some k) any = Strange k
looked_by None true = SomeDone
looked_by None false = NoneDone

-- of these steps, which are numbered from k on
abbrev pub looked_of : ℕ → List Step → FileTree → Looked
looked_of k steps t = looked_by (strange_look k steps t) (any_goes_back steps t)
