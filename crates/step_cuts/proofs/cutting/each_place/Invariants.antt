use Rattle.std.proofs.Common.{◌≡◌, ◌++◌, drop}
use Rattle.step_trees.specs.Groups.{singly}
use Rattle.step_cuts.specs.Cuts.{ends_of}
use Rattle.step_cuts.proofs.cutting.each_place.Given as goal

abbrev pub invariant-loop-place : goal.invariant-loop-place
invariant-loop-place l = l.ends.items ++ ends_of l.place (singly (drop l.place l.steps)) ≡ ends_of 0 (singly l.steps)
