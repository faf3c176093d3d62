use Rattle.std.proofs.Common.{◌≡◌, ◌+◌, ◌≤◌, ◌++◌, length}
use Rattle.commit_plan.specs.Stands.{first_changes, max_rows}
use Rattle.commit_plan.proofs.changes.changes_of.Given as goal

abbrev pub invariant-loop-row : goal.invariant-loop-row
invariant-loop-row l = record {
  changes : l.changes.items ++ first_changes l.fresh l.row-iterator.rest.items ≡ first_changes 0 l.fn.rows.items;
  few : l.fresh + length l.row-iterator.rest.items ≤ max_rows;
}
