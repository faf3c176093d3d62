use Rattle.std.proofs.Common.{take}
use Rattle.mem_tree.specs.Choices.{takes}
use Rattle.mem_tree.specs.Images.{Replays, picked, stand_in}
use Rattle.mem_tree.proofs.replay.replay.Given as goal

abbrev pub invariant-loop-place : goal.invariant-loop-place
invariant-loop-place l = Replays (picked (takes l.choice) (take l.place l.calls)) (stand_in l.base) (stand_in l.store)
