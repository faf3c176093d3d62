use Rattle.std.proofs.Common.{◌≡◌, max, ap, sym, ◌∙◌, arith}
use Rattle.commit_steps.specs.Tests.{are_apart}
use Rattle.step_layers.specs.Layering.{contents}
use Rattle.step_layers.specs.Layers.{free_from, layer_behind}
use Rattle.step_layers.proofs.FloorLemmas.{two_paths}
use Rattle.step_layers.proofs.layering.Layering.layer.Goals as goal

pub returns-in_ok-floor-in-Rename-clause-layer : goal.returns-in_ok-floor-in-Rename-clause-layer
returns-in_ok-floor-in-Rename-clause-layer c =
    let ls = contents c.args.self.now.layers.items in
    let from = c.in-Rename.from in
    let to = c.in-Rename.to in
    let top = c.max.ensures in
    let from_is = c.in_ok-from-in-Rename.ensures.floor in
    let to_is = c.in_ok-floor-in-Rename.ensures.floor in
    let is : c.max.result ≡ max (free_from 0 (are_apart from) ls) (free_from 0 (are_apart to) ls) = omega (arith, top, from_is, to_is) in
    is ∙ sym (two_paths from to ls) ∙ ap (layer_behind ls) (sym c.in-Rename.is)
