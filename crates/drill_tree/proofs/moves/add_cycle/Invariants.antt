use Rattle.std.proofs.Common.{◌≡◌, ◌++◌, ◌+◌, ◌%◌, map}
use Rattle.drill_tree.specs.Drill.{in_dir}
use Rattle.drill_tree.specs.Groups.{below, cycle_name, moves_file, one}
use Rattle.drill_tree.proofs.moves.add_cycle.Given as goal

abbrev pub invariant-loop-number : goal.invariant-loop-number
invariant-loop-number l = record {
  made : l.moves.items ≡ l.fn.moves.items ++ map (in_dir l.fn.dir) (map (λ i. moves_file (one (cycle_name i)) (one (cycle_name ((i + 1) % l.fn.len)))) (below l.number));
}
