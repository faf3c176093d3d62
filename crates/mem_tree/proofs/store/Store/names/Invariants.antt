use Rattle.std.proofs.Common.{◌≡◌, map, take}
use Rattle.std.specs.List.{filter_map}
use Rattle.tree_core.specs.Fields.{child_name}
use Rattle.mem_tree.proofs.store.Store.names.Given as goal

abbrev pub invariant-loop-names : goal.invariant-loop-names
invariant-loop-names l = l.found.items ≡ filter_map (child_name l.path) (map (λ k. k.now) (take l.names-index l.names-items))
