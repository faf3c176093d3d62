use Rattle.std.proofs.Common.{◌≡◌, map, take}
use Rattle.mem_tree.specs.Images.{emptied}
use Rattle.mem_tree.proofs.pending.emptied.Given as goal

abbrev pub invariant-loop-call : goal.invariant-loop-call
invariant-loop-call l = l.empty.items ≡ map emptied (take l.call-index l.calls)
