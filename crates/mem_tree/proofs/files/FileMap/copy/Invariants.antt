use Rattle.std.proofs.Common.{◌≡◌, map, nat_cmp}
use Rattle.std.specs.FinMap.{from_entries}
use Rattle.std.specs.Map.Iter.{deref_pair}
use Rattle.mem_tree.proofs.files.FileMap.copy.Given as goal

abbrev pub invariant-loop-number : goal.invariant-loop-number
invariant-loop-number l = l.all ≡ from_entries {R = nat_cmp} (map deref_pair l.yielded)
