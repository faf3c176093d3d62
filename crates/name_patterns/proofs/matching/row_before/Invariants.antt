use Rattle.std.proofs.Common.{◌≡◌, length, List, ℕ, ◌++◌, ◌∷◌, ◌+◌}
use Rattle.name_patterns.specs.Rows.{row_of}
use Rattle.name_patterns.specs.declared.patterns.Piece.{Piece}
use Rattle.name_patterns.proofs.matching.row_before.Given as goal

abbrev pub invariant-loop-c : goal.invariant-loop-c
invariant-loop-c l = (done : List ℕ) × (l.name ≡ l.rest ++ done) × ((pieces : List Piece) → l.row ≡ row_of pieces l.name → l.next.items ≡ row_of (l.piece ∷ pieces) done) × (length l.next.items ≡ length done + 1)

abbrev pub decreases-loop-c : goal.decreases-loop-c
decreases-loop-c l = length l.rest
