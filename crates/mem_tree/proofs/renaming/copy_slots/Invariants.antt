use Rattle.std.proofs.Common.{◌≡◌, take}
use Rattle.mem_tree.specs.Moves.{pairs_of, with_copies}
use Rattle.mem_tree.proofs.renaming.copy_slots.Given as goal

abbrev pub invariant-loop-one : goal.invariant-loop-one
invariant-loop-one l = l.slots ≡ with_copies (pairs_of (take l.one-index l.moves)) l.initial.slots
