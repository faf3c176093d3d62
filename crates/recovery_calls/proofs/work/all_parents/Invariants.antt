use Rattle.std.proofs.Common.{◌≡◌, ◌++◌, drop, map}
use Rattle.step_looks.specs.Looks.{parents_of}
use Rattle.recovery_calls.proofs.work.all_parents.Given as goal

abbrev pub invariant-loop-step : goal.invariant-loop-step
invariant-loop-step l = l.all.items ++ map parents_of (drop l.step-index l.steps) ≡ map parents_of l.steps
