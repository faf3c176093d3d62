use Rattle.std.proofs.Common.{◌≡◌, ◌++◌, map}
use Rattle.drill_tree.specs.Drill.{held_in}
use Rattle.drill_tree.specs.Groups.{below, cycle_name, file, one}
use Rattle.drill_tree.proofs.entries.add_cycle.Given as goal

abbrev pub invariant-loop-number : goal.invariant-loop-number
invariant-loop-number l = record {
  made : l.entries.items ≡ l.fn.entries.items ++ map (held_in l.fn.dir) (map (λ i. file (one (cycle_name i))) (below l.number));
}
