use Rattle.std.proofs.Common.{take}
use Rattle.asked_changes.proofs.AskedLemmas.{HaveRisen}
use Rattle.asked_changes.proofs.asked.lines_rise.Given as goal

abbrev pub invariant-loop-row : goal.invariant-loop-row
invariant-loop-row l = HaveRisen (take l.row-index l.rows) l.least
