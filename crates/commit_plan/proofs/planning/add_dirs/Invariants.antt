use Rattle.std.proofs.Common.{◌≡◌, ◌++◌, drop, map}
use Rattle.commit_steps.specs.declared.step.Step.TheVariants.{MakeDir}
use Rattle.commit_plan.proofs.planning.add_dirs.Given as goal

abbrev pub invariant-loop-path : goal.invariant-loop-path
invariant-loop-path l = l.steps.items ++ map MakeDir (drop l.path-index l.missing) ≡ l.fn.steps.items ++ map MakeDir l.missing
