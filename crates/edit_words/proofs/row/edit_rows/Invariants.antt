use Rattle.std.proofs.Common.{◌≡◌, map, take}
use Rattle.edit_words.specs.Rows.{edit_row}
use Rattle.edit_words.proofs.row.edit_rows.Given as goal

abbrev pub invariant-loop-edit : goal.invariant-loop-edit
invariant-loop-edit l = l.rows.items ≡ map edit_row (take l.edit-index l.edits)
