use Rattle.std.proofs.Common.{◌≡◌, drop}
use Rattle.std.specs.FinMap.{from_entries}
use Rattle.mark_table.specs.Excess.{backups, version_cmp, with_backups}
use Rattle.mark_table.proofs.backups.collect.Given as goal

abbrev pub invariant-loop-path : goal.invariant-loop-path
invariant-loop-path l = with_backups (drop l.path-index l.shown) (from_entries {R = version_cmp} l.found.entries) ≡ backups l.shown
