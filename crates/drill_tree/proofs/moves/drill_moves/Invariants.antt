use Rattle.std.proofs.Common.{◌≡◌}
use Rattle.drill_tree.specs.Drill.{drill_moves}
use Rattle.drill_tree.proofs.moves.drill_moves.Given as goal

abbrev pub invariant-loop-number : goal.invariant-loop-number
invariant-loop-number l = record { made : l.moves.items ≡ drill_moves l.number }
