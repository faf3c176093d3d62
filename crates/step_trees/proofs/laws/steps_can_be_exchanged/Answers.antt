use Rattle.step_trees.proofs.LawLemmas.{exchanged}
use Rattle.step_trees.proofs.laws.steps_can_be_exchanged.Goals as goal

pub returns : goal.returns
returns c = exchanged
