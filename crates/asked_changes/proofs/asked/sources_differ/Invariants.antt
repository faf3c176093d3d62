use Rattle.std.proofs.Common.{take}
use Rattle.asked_changes.proofs.AskedLemmas.{AreApart}
use Rattle.asked_changes.proofs.asked.sources_differ.Given as goal

abbrev pub invariant-loop-row : goal.invariant-loop-row
invariant-loop-row l = AreApart (take l.row-index l.rows) l.seen
