use Rattle.std.proofs.Common.{◌≡◌, [], take}
use Rattle.std.specs.List.{AllByRecursion}
use Rattle.step_layers.specs.Layering.{HasNumbers, IsSound}
use Rattle.step_layers.proofs.layering.Layering.of.Given as goal

abbrev pub invariant-loop-step : goal.invariant-loop-step
invariant-loop-step l = record {
  sound : IsSound l.layering;
  none : l.layering.layers.items ≡ [];
  numbered : AllByRecursion (HasNumbers l.layering.numbers) (take l.step-index l.steps);
}
