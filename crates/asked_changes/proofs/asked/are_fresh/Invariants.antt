use Rattle.std.proofs.Common.{All, take}
use Rattle.tree_core.specs.declared.changes.Creation.{Creation}
use Rattle.asked_changes.specs.Asking.{IsLawfulFresh}
use Rattle.asked_changes.proofs.asked.are_fresh.Given as goal

abbrev pub invariant-loop-creation : goal.invariant-loop-creation
invariant-loop-creation l = All (λ (c : Creation). IsLawfulFresh c.what) (take l.creation-index l.creations)
