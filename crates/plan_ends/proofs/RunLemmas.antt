-- Steps that can be done one behind the other, joined.
use Rattle.std.proofs.Common.{◌≡◌, List, [], ◌∷◌, ◌++◌, refl}
use Rattle.tree_core.specs.FileTree.{FileTree}
use Rattle.commit_steps.specs.declared.step.Step.{Step}
use Rattle.step_trees.specs.Leads.{HoldsEntries, Ends, LeadsFrom}
use Rattle.step_trees.specs.Steps.{step_done, after}
use Rattle.plan_ends.specs.Runs.{IsRun}

pub after-append : (xs ys : List Step) (t : FileTree) → after (xs ++ ys) t ≡ after ys (after xs t)
after-append [] ys t = refl
after-append (x ∷ xs) ys t = after-append xs ys (step_done x t)

pub run-append : (xs ys : List Step) (t : FileTree) → IsRun t xs → IsRun (after xs t) ys → IsRun t (xs ++ ys)
run-append [] ys t first more = more
run-append (x ∷ xs) ys t first more = (first.0, first.1, first.2, run-append xs ys (step_done x t) first.3 more)

pub run_ends : (steps : List Step) (t : FileTree) → IsRun t steps → HoldsEntries (after steps t)
run_ends [] t run = run
run_ends (s ∷ steps) t run = run_ends steps (step_done s t) run.3

-- a run whose last tree is the edited one leads there
pub run_leads : (steps : List Step) (t new : FileTree) → IsRun t steps → Ends new (after steps t) → LeadsFrom t steps new
run_leads [] t new run ends = (run, ends)
run_leads (s ∷ steps) t new run ends = (run.0, run.1, run.2, run_leads steps (step_done s t) new run.3 ends)
