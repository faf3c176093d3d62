use Rattle.std.proofs.Common.{◌≡◌, map, take}
use Rattle.edit_words.specs.Rows.{removal_row}
use Rattle.edit_words.proofs.row.removal_rows.Given as goal

abbrev pub invariant-loop-removal : goal.invariant-loop-removal
invariant-loop-removal l = l.rows.items ≡ map removal_row (take l.removal-index l.removals)
