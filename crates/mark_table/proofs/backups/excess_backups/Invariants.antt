use Rattle.std.proofs.Common.{◌≡◌, map, filter, take}
use Rattle.std.specs.Map.{keys_of}
use Rattle.mark_table.specs.Excess.{is_excess}
use Rattle.mark_table.proofs.RowLemmas.{Row}
use Rattle.mark_table.proofs.backups.excess_backups.Given as goal

abbrev pub invariant-loop-at : goal.invariant-loop-at
invariant-loop-at l = l.found.items ≡ map (λ (r : Row). r.1) (filter (λ (r : Row). is_excess l.kept_old l.kept_new (keys_of l.row-items) r.0) (take l.at l.row-items))
