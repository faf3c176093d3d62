use Rattle.std.proofs.Common.{◌≡◌, ◌++◌, drop}
use Rattle.commit_plan.specs.Holding.{held_from}
use Rattle.commit_plan.proofs.holds.held_paths.Given as goal

abbrev pub invariant-loop-row : goal.invariant-loop-row
invariant-loop-row l = l.held.items ++ held_from l.rest (drop l.row-index l.rows) ≡ held_from l.fn.victims l.rows
