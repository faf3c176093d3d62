use Rattle.std.proofs.Common.{◌≡◌}
use Rattle.std.specs.List.{list_any}
use Rattle.mem_tree.specs.Slots.{placed}
use Rattle.mem_tree.proofs.RunLemmas.{Run, firsts, is_child}
use Rattle.mem_tree.proofs.slots.SlotMap.has_child.Given as goal

abbrev pub invariant-loop-key : goal.invariant-loop-key
invariant-loop-key l = record {
  so_far : list_any (is_child l.names) (firsts (placed l.key-iterator)) ≡ list_any (is_child l.names) (firsts (placed l.initial.key-iterator));
  run : Run l.names (placed l.key-iterator);
}
