use Rattle.std.proofs.Common.{◌≡◌, ◌++◌, ◌+◌, ◌≤◌, length}
use Rattle.plan_moves.specs.Plan.{holds}
use Rattle.commit_plan.specs.Holding.{max_held}
use Rattle.commit_plan.proofs.holds.add_holds.Given as goal

abbrev pub invariant-loop-path : goal.invariant-loop-path
invariant-loop-path l = record {
  steps : l.steps.items ++ holds l.number l.path-iterator.rest.items ≡ l.fn.steps.items ++ holds 0 l.fn.paths.items;
  few : l.number + length l.path-iterator.rest.items ≤ max_held;
}
