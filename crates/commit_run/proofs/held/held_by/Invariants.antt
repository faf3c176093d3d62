use Rattle.std.proofs.Common.{◌≡◌, ◌++◌, ◌*◌, ◌≤◌, drop, length}
use Rattle.commit_run.specs.HeldFrom.{kinds_from}
use Rattle.plan_fits.specs.HeldKinds.{numbered}
use Rattle.commit_run.proofs.held.held_by.Given as goal

abbrev pub invariant-loop-row : goal.invariant-loop-row
invariant-loop-row l = record {
  held : l.held.items ++ numbered (length l.held.items) (kinds_from l.rest (drop l.row-index l.rows)) ≡ numbered 0 (kinds_from l.fn.victims l.rows);
  few : length l.held.items ≤ 2 * l.row-index;
}
