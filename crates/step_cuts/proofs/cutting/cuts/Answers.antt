use Rattle.std.proofs.Common.{◌≡◌, ◌<◌, ◌≤◌, IfOk, length, sym, subst}
use Rattle.step_cuts.specs.Cuts.{ends_of}
use Rattle.step_cuts.proofs.CutLemmas.{groups_few, groups_many}
use Rattle.step_cuts.proofs.cutting.cuts.Goals as goal

pub returns-then-steps-le-FEW_STEPS : goal.returns-then-steps-le-FEW_STEPS
returns-then-steps-le-FEW_STEPS c =
    let few : length c.args.steps.now ≤ 8 = c.if-steps-le-FEW_STEPS.true in
    subst (λ gs. IfOk c.each_place.result (λ ends. ends.items ≡ ends_of 0 gs)) (sym (groups_few c.args.steps.now few)) c.each_place.ensures

pub returns-else-steps-le-FEW_STEPS : goal.returns-else-steps-le-FEW_STEPS
returns-else-steps-le-FEW_STEPS c =
    let many : 8 < length c.args.steps.now = c.if-steps-le-FEW_STEPS.false in
    subst (λ gs. IfOk c.longest_cuts.result (λ ends. ends.items ≡ ends_of 0 gs)) (sym (groups_many c.args.steps.now many)) c.longest_cuts.ensures
