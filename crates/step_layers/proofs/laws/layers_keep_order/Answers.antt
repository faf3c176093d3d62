use Rattle.step_layers.proofs.LayerLemmas.{layers_keep_order}
use Rattle.step_layers.proofs.laws.layers_keep_order.Goals as goal

pub returns : goal.returns
returns c = layers_keep_order
