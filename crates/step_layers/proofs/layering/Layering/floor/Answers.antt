use Rattle.std.proofs.Common.{rules, ◌≡◌, max, map, option_map, ap, ◌∙◌, arith}
use Rattle.path_map.specs.Walks.{firsts, value_at}
use Rattle.step_layers.specs.Floors.{floor_at, highest_of}
use Rattle.commit_steps.specs.Tests.{are_apart}
use Rattle.step_layers.specs.Layers.{free_from}
use Rattle.step_layers.specs.Layering.{contents}
use Rattle.step_layers.proofs.FloorLemmas.{free_small}
use Rattle.step_layers.proofs.SoundLemmas.{contents_length, floor_is}
use Rattle.step_layers.proofs.layering.Layering.floor.Goals as goal

pub returns-clause-floor : goal.returns-clause-floor
returns-clause-floor c =
    let self = c.args.self.now in
    let path = c.args.path.now in
    let ids = map (option_map (λ v. v.now)) c.in_ok-along.along.items in
    let are : ids ≡ map (value_at self.numbers) (firsts path) = c.in_ok-along.ensures in
    let a_is : c.highest-named.result ≡ highest_of self.at.items ids = search rules in
    let below : c.floor_at-below.result ≡ floor_at self.under.items (option_map (λ v. v.now) c.get.result) = search rules in
    let is : c.max.result ≡ max c.highest-named.result c.floor_at-below.result = search rules in
    is
    ∙ floor_is self (contents self.layers.items) path ids c.highest-named.result c.floor_at-below.result c.requires.sound.numbered c.requires.sound.floors c.requires.numbered are a_is
    (below ∙ ap (floor_at self.under.items) c.get.ensures)

pub returns-clause-small : goal.returns-clause-small
returns-clause-small c =
    let ls = c.args.self.now.layers.items in
    let is : c.max.result ≡ free_from 0 (are_apart c.args.path.now) (contents ls) = returns-clause-floor c in
    let small = free_small 0 (are_apart c.args.path.now) (contents ls) in
    let long = contents_length ls in
    omega (arith, is, small, long)
