use Rattle.std.proofs.Common.{◌≡◌, length, List, ℕ, ◌++◌, []}
use Rattle.name_patterns.specs.Rows.{row_of}
use Rattle.name_patterns.proofs.matching.row_of_end.Given as goal

abbrev pub invariant-loop-before : goal.invariant-loop-before
invariant-loop-before l = (done : List ℕ) × (l.name ≡ l.rest ++ done) × (l.row.items ≡ row_of [] done)

abbrev pub decreases-loop-before : goal.decreases-loop-before
decreases-loop-before l = length l.rest
