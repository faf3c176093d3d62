use Rattle.std.proofs.Common.{◌≡◌, ◌++◌, drop, map}
use Rattle.commit_plan.specs.Holding.{what_of}
use Rattle.commit_plan.proofs.fresh.created.Given as goal

abbrev pub invariant-loop-creation : goal.invariant-loop-creation
invariant-loop-creation l = l.all.items ++ map what_of (drop l.creation-index l.creations) ≡ map what_of l.creations
