use Rattle.std.proofs.Common.{◌≡◌, take}
use Rattle.std.specs.FinMap.{get}
use Rattle.dired_text.specs.Paths.{Names}
use Rattle.mark_table.specs.Moves.{mark_from, source_of}
use Rattle.mark_table.proofs.moving.arrived.Given as goal

abbrev pub invariant-loop-source : goal.invariant-loop-source
invariant-loop-source l = (q : Names) → get l.next q ≡ mark_from l.marks (source_of (take l.source-index l.moves) q) (get l.initial.next q)
