use Rattle.std.proofs.Common.{◌≡◌, ◌++◌, drop, map}
use Rattle.plan_moves.specs.Plan.{mode_step}
use Rattle.commit_plan.proofs.planning.add_modes.Given as goal

abbrev pub invariant-loop-path : goal.invariant-loop-path
invariant-loop-path l = l.steps.items ++ map mode_step (drop l.path-index l.modes) ≡ l.fn.steps.items ++ map mode_step l.modes
