use Rattle.std.proofs.Common.{◌≡◌, map, take}
use Rattle.edit_words.specs.Rows.{creation_row}
use Rattle.edit_words.proofs.row.creation_rows.Given as goal

abbrev pub invariant-loop-creation : goal.invariant-loop-creation
invariant-loop-creation l = l.rows.items ≡ map creation_row (take l.creation-index l.creations)
