use Rattle.std.proofs.Common.{◌≡◌, ap, sym, subst, ◌∙◌}
use Rattle.step_layers.specs.Layering.{contents, HasFloors}
use Rattle.step_layers.specs.Layers.{put}
use Rattle.step_layers.proofs.SoundLemmas.{floors_put}
use Rattle.step_layers.proofs.layering.Layering.take.Goals as goal

pub returns-clause-sound : goal.returns-clause-sound
returns-clause-sound c =
    let old = c.args.self.now in
    let raised = c.in_ok-raise_step.ensures in
    let new = c.raise_step.new.self in
    let layer = c.in_ok-layer.layer in
    let n = raised.numbered in
    let floors : HasFloors (put layer c.args.step (contents old.layers.items)) new = floors_put c.args.step layer (contents old.layers.items) old new c.requires.sound.floors raised in
    let are : contents c.put_step.new.layers.items ≡ put layer c.args.step (contents old.layers.items) = c.in_ok-put_step.ensures ∙ ap (λ ls. put layer c.args.step (contents ls.items)) raised.layers in
    let there = subst (λ ls. HasFloors ls new) (sym are) floors in
    record {
      numbered = record { map = n.map; as_many = n.as_many; within = n.within; one = n.one };
      floors = record { at = there.at; under = there.under };
    }

pub returns-clause-taken : goal.returns-clause-taken
returns-clause-taken c =
    let old = c.args.self.now in
    let layer = c.in_ok-layer.layer in
    c.in_ok-put_step.ensures
    ∙ ap (λ ls. put layer c.args.step (contents ls.items)) (c.in_ok-raise_step.ensures).layers
    ∙ ap (λ n. put n c.args.step (contents old.layers.items)) c.in_ok-layer.ensures.layer
