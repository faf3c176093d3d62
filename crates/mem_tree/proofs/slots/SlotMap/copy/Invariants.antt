use Rattle.std.proofs.Common.{◌≡◌, map}
use Rattle.std.specs.FinMap.{from_entries}
use Rattle.std.specs.Map.Iter.{deref_pair}
use Rattle.dired_text.specs.Paths.{path_cmp}
use Rattle.mem_tree.specs.Slots.{placed}
use Rattle.mem_tree.proofs.slots.SlotMap.copy.Given as goal

abbrev pub invariant-loop-names : goal.invariant-loop-names
invariant-loop-names l = l.all ≡ from_entries {R = path_cmp} (placed (map deref_pair l.yielded))
