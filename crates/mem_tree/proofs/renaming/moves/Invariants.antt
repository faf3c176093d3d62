use Rattle.std.proofs.Common.{◌≡◌, map, take}
use Rattle.tree_core.specs.FileTree.{moved}
use Rattle.mem_tree.specs.Moves.{pairs_of}
use Rattle.mem_tree.proofs.renaming.moves.Given as goal

abbrev pub invariant-loop-old : goal.invariant-loop-old
invariant-loop-old l = pairs_of l.moves.items ≡ map (λ k. (k.now, moved l.from l.to k.now)) (take l.old-index l.old-items)
