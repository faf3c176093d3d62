use Rattle.step_trees.proofs.LawLemmas.{looks_kept}
use Rattle.step_trees.proofs.laws.looks_are_kept.Goals as goal

pub returns : goal.returns
returns c = looks_kept
