use Rattle.std.proofs.Common.{rules, ◌≡◌, ◌++◌, ◌∷◌, [], append_assoc, ap, sym, ◌∙◌}
use Rattle.std.proofs.lemmas.List.{append-nil}
use Rattle.step_trees.specs.Groups.{joined}
use Rattle.step_layers.specs.Layering.{contents}
use Rattle.step_layers.proofs.SoundLemmas.{none_left}
use Rattle.step_layers.proofs.layering.Layering.joined.Goals as goal

pub loop-layer-preserved : goal.loop-layer-preserved
loop-layer-preserved c =
    let layer = c.in-Some.layer in
    let rest = c.next.new.self.rest.items in
    let before : c.loop-layer.layer-iterator.rest.items ≡ layer ∷ rest = search rules in
    let longer : c.append.new.self.items ≡ c.loop-layer.all.items ++ layer.items = search rules in
    ap (λ xs. xs ++ joined (contents rest)) longer
    ∙ append_assoc c.loop-layer.all.items layer.items (joined (contents rest))
    ∙ ap (λ ls. c.loop-layer.all.items ++ joined (contents ls)) (sym before)
    ∙ c.loop-layer.invariant

pub returns : goal.returns
returns c =
    let none : c.loop-layer.layer-iterator.rest.items ≡ [] = none_left c.loop-layer.layer-iterator.rest.items (sym c.loop-layer.layer-iterator.rest.ok.0 ∙ c.in-None.ensures.steps.0) in
    sym (append-nil c.loop-layer.all.items) ∙ ap (λ ls. c.loop-layer.all.items ++ joined (contents ls)) (sym none) ∙ c.loop-layer.invariant
