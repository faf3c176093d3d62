use Rattle.std.proofs.Common.{All, take}
use Rattle.edit_words.specs.WellFormed.{IsNoRoot}
use Rattle.asked_changes.proofs.asked.none_is_root.Given as goal

abbrev pub invariant-loop-row : goal.invariant-loop-row
invariant-loop-row l = All IsNoRoot (take l.row-index l.rows)
