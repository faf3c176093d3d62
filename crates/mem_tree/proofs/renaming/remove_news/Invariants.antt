use Rattle.std.proofs.Common.{◌≡◌, map, take}
use Rattle.mem_tree.specs.Moves.{pairs_of, without_each}
use Rattle.mem_tree.proofs.renaming.remove_news.Given as goal

abbrev pub invariant-loop-one : goal.invariant-loop-one
invariant-loop-one l = l.slots ≡ without_each (map (λ p. p.1) (pairs_of (take l.one-index l.moves))) l.initial.slots
