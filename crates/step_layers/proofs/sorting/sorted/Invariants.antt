use Rattle.std.proofs.Common.{◌≡◌}
use Rattle.std.specs.List.{AllByRecursion}
use Rattle.step_layers.specs.Layering.{contents, HasNumbers, IsSound}
use Rattle.step_layers.specs.Layers.{layers, layers_behind}
use Rattle.step_layers.proofs.sorting.sorted.Given as goal

abbrev pub invariant-loop-step : goal.invariant-loop-step
invariant-loop-step l = record {
  sound : IsSound l.layering;
  numbered : AllByRecursion (HasNumbers l.layering.numbers) l.step-iterator.rest.items;
  layers : layers_behind (contents l.layering.layers.items) l.step-iterator.rest.items ≡ layers l.fn.steps.items;
}
