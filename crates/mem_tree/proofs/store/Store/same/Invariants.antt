use Rattle.std.proofs.Common.{◌≡◌, ◌↔◌}
use Rattle.std.specs.FinMap.{entries}
use Rattle.mem_tree.specs.Slots.{placed}
use Rattle.mem_tree.proofs.TreeOf.{shown_nodes}
use Rattle.mem_tree.proofs.store.Store.same.Given as goal

abbrev pub invariant-loop-names : goal.invariant-loop-names
invariant-loop-names l = (shown_nodes l.self.files (placed l.names-iterator) ≡ shown_nodes l.other.files (placed l.others)) ↔ (shown_nodes l.self.files (entries l.self.slots) ≡ shown_nodes l.other.files (entries l.other.slots))
