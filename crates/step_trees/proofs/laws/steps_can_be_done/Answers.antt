use Rattle.step_trees.proofs.ChoiceLemmas.{not_both}
use Rattle.step_trees.proofs.LawLemmas.{done_then}
use Rattle.step_trees.proofs.laws.steps_can_be_done.Goals as goal

pub returns-clause-can : goal.returns-clause-can
returns-clause-can c = done_then

pub returns-clause-none_both : goal.returns-clause-none_both
returns-clause-none_both c = not_both
