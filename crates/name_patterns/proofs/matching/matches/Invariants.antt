use Rattle.std.proofs.Common.{◌≡◌, length, List, ◌++◌}
use Rattle.name_patterns.specs.Rows.{row_of}
use Rattle.name_patterns.specs.declared.patterns.Piece.{Piece}
use Rattle.name_patterns.proofs.matching.matches.Given as goal

abbrev pub invariant-loop-piece : goal.invariant-loop-piece
invariant-loop-piece l = (later : List Piece) × (l.pattern ≡ l.rest ++ later) × (l.row.items ≡ row_of later l.name)

abbrev pub decreases-loop-piece : goal.decreases-loop-piece
decreases-loop-piece l = length l.rest
