use Rattle.step_trees.proofs.CutLemmas.{joined_groups, groups_groups, groups_longest}
use Rattle.step_trees.proofs.laws.groups_are_cut.Goals as goal

pub returns-clause-cut : goal.returns-clause-cut
returns-clause-cut c = λ steps. (joined_groups steps, groups_groups steps)

pub returns-clause-longest : goal.returns-clause-longest
returns-clause-longest c = groups_longest
