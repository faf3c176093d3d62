use Rattle.std.proofs.Common.{All, take}
use Rattle.edit_words.specs.WellFormed.{IsEdit}
use Rattle.asked_changes.proofs.asked.are_edits.Given as goal

abbrev pub invariant-loop-edit : goal.invariant-loop-edit
invariant-loop-edit l = All IsEdit (take l.edit-index l.edits)
