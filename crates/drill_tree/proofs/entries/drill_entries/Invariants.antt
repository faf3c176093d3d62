use Rattle.std.proofs.Common.{◌≡◌}
use Rattle.drill_tree.specs.Drill.{drill_held}
use Rattle.drill_tree.proofs.entries.drill_entries.Given as goal

abbrev pub invariant-loop-number : goal.invariant-loop-number
invariant-loop-number l = record { made : l.entries.items ≡ drill_held l.number }
