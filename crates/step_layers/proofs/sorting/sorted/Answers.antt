use Rattle.std.proofs.Common.{rules, ◌≡◌, ◌<◌, ◌∷◌, [], length, ap, sym, subst, ◌∙◌}
use Rattle.std.specs.List.{AllByRecursion}
use Rattle.step_trees.specs.Groups.{joined}
use Rattle.step_layers.specs.Layering.{contents, HasNumbers}
use Rattle.step_layers.specs.Layers.{by_layer, layers_behind}
use Rattle.step_layers.proofs.GroupLemmas.{sorted_is}
use Rattle.step_layers.proofs.SoundLemmas.{none_left, same_list}
use Rattle.step_layers.proofs.sorting.sorted.Goals as goal

pub take-requires-clause-numbered : goal.take-requires-clause-numbered
take-requires-clause-numbered c =
    let before : c.loop-step.step-iterator.rest.items ≡ c.in-Some.step ∷ c.next.new.self.rest.items = search rules in
    (subst (AllByRecursion (HasNumbers c.loop-step.layering.numbers)) before c.loop-step.invariant.numbered).0

pub loop-step-preserved : goal.loop-step-preserved
loop-step-preserved c =
    let rest = c.next.new.self.rest.items in
    let before : c.loop-step.step-iterator.rest.items ≡ c.in-Some.step ∷ rest = search rules in
    let numbered = (subst (AllByRecursion (HasNumbers c.loop-step.layering.numbers)) before c.loop-step.invariant.numbered).1 in
    record {
      sound = c.in_ok-take.ensures.sound;
      numbered = subst (λ m. AllByRecursion (HasNumbers m) rest) (sym c.in_ok-take.ensures.numbers) numbered;
      layers = ap (λ ls. layers_behind ls rest) c.in_ok-take.ensures.taken
          ∙ ap (layers_behind (contents c.loop-step.layering.layers.items)) (sym before) ∙ c.loop-step.invariant.layers;
    }

pub returns : goal.returns
returns c =
    let steps = c.args.steps.items in
    let none : c.loop-step.step-iterator.rest.items ≡ [] = none_left c.loop-step.step-iterator.rest.items (sym c.loop-step.step-iterator.rest.ok.0 ∙ c.in-None.ensures.steps.0) in
    let many : 8 < length steps = search rules in
    same_list c.joined.result (joined (contents c.loop-step.layering.layers.items)) (by_layer steps) c.joined.ensures
    (ap (λ xs. joined (layers_behind (contents c.loop-step.layering.layers.items) xs)) (sym none) ∙ ap joined c.loop-step.invariant.layers ∙ sym (sorted_is steps many))
