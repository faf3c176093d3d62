use Rattle.step_trees.proofs.LawLemmas.{undone_then}
use Rattle.step_trees.proofs.laws.steps_can_be_undone.Goals as goal

pub returns : goal.returns
returns c = undone_then
