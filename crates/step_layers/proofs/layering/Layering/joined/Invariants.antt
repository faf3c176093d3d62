use Rattle.std.proofs.Common.{◌≡◌, ◌++◌}
use Rattle.step_trees.specs.Groups.{joined}
use Rattle.step_layers.specs.Layering.{contents}
use Rattle.step_layers.proofs.layering.Layering.joined.Given as goal

abbrev pub invariant-loop-layer : goal.invariant-loop-layer
invariant-loop-layer l = l.all.items ++ joined (contents l.layer-iterator.rest.items) ≡ joined (contents l.fn.self.layers.items)
