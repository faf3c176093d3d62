use Rattle.step_layers.proofs.LayerLemmas.{layers_are_independent}
use Rattle.step_layers.proofs.GroupLemmas.{groups_are_few}
use Rattle.step_layers.proofs.laws.layers_are_independent.Goals as goal

pub returns-clause-independent : goal.returns-clause-independent
returns-clause-independent c = layers_are_independent

pub returns-clause-few : goal.returns-clause-few
returns-clause-few c = groups_are_few
