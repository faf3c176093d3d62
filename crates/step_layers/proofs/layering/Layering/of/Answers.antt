use Rattle.std.proofs.Common.{◌≡◌, ◌+◌, ◌++◌, [], ◌∷◌, take, take_all, ap, sym, subst, ◌∙◌}
use Rattle.std.proofs.lemmas.List.{take_more}
use Rattle.std.specs.List.{AllByRecursion}
use Rattle.commit_steps.specs.declared.step.Step.{Step}
use Rattle.step_layers.specs.Layering.{HasNumbers}
use Rattle.step_layers.proofs.OrderLemmas.{all_both}
use Rattle.step_layers.proofs.SoundLemmas.{all_kept}
use Rattle.step_layers.proofs.layering.Layering.of.Goals as goal

pub loop-step-preserved : goal.loop-step-preserved
loop-step-preserved c =
    let steps = c.args.steps.now in
    let i = c.loop-step.step-index in
    let s = c.step-item.result in
    let old = c.loop-step.layering.numbers in
    let new = c.number_step.new.self.numbers in
    let next : take (i + 1) steps ≡ take i steps ++ s ∷ [] = take_more steps i s c.loop-step-test.true ∙ ap (λ (x : Step). take i steps ++ x ∷ []) (sym c.step-item.is) in
    record {
      sound = c.in_ok-number_step.ensures.sound;
      none = c.in_ok-number_step.ensures.none;
      numbered = subst (AllByRecursion (HasNumbers new)) (sym next)
          (all_both (HasNumbers new) (take i steps) (s ∷ []) (all_kept old new c.in_ok-number_step.ensures.kept (take i steps) c.loop-step.invariant.numbered) (c.in_ok-number_step.ensures.numbered, tt));
    }

pub returns-clause-numbered : goal.returns-clause-numbered
returns-clause-numbered c = subst (AllByRecursion (HasNumbers c.loop-step.layering.numbers)) (take_all c.loop-step.step-index c.args.steps.now c.loop-step-test.false) c.loop-step.invariant.numbered
