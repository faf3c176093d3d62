use Rattle.std.proofs.Common.{◌≡◌, drop}
use Rattle.mark_table.proofs.MoveLemmas.{emptied}
use Rattle.mark_table.proofs.moving.departed.Given as goal

abbrev pub invariant-loop-source : goal.invariant-loop-source
invariant-loop-source l = emptied (drop l.source-index l.moves) l.next ≡ emptied l.moves l.marks
