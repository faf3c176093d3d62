use Rattle.std.proofs.Common.{◌≡◌, ◌++◌, map}
use Rattle.std.specs.List.{filter}
use Rattle.dired_text.specs.Paths.{is_below}
use Rattle.mem_tree.specs.Slots.{placed}
use Rattle.mem_tree.proofs.RunLemmas.{Run, firsts}
use Rattle.mem_tree.proofs.slots.SlotMap.below.Given as goal

abbrev pub invariant-loop-key : goal.invariant-loop-key
invariant-loop-key l = record {
  so_far : map (λ k. k.now) l.found.items ++ filter (is_below l.names) (firsts (placed l.key-iterator)) ≡ filter (is_below l.names) (firsts (placed l.initial.key-iterator));
  run : Run l.names (placed l.key-iterator);
}
