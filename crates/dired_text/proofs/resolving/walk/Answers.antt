use Rattle.std.proofs.Common.{rules, ◌≡◌, ◌∙◌, arith, Err}
use Rattle.dired_text.proofs.ResolveLemmas.{walk-step, walk-refused, walk-last}
use Rattle.dired_text.proofs.PlaceLemmas.{length-parts}
use Rattle.dired_text.proofs.resolving.walk.Goals as goal

pub returns-in_err-enter : goal.returns-in_err-enter
returns-in_err-enter c =
    let e : c.from_residual.result ≡ Err c.in_err-enter.field-0.0 = search rules in
    rw (e, c.loop-component.invariant.2) (walk-refused c.loop-component.names.items c.enter.new.names.items c.loop-component.place _ _ _ c.in_err-enter.field-0.0 c.in-Some.ensures.0 c.in-Some.ensures.1 c.in_err-enter.ensures)

pub loop-component-preserved : goal.loop-component-preserved
loop-component-preserved c = (
  search rules,
  omega (arith, length-parts _ _ _ _ c.in-Some.ensures.0),
  c.loop-component.invariant.2 ∙ walk-step _ _ _ _ _ _ c.in-Some.ensures.0 c.in-Some.ensures.1 c.in_ok-enter.ensures,
)

pub returns : goal.returns
returns c = rw (c.loop-component.invariant.2 ∙ walk-last _ _ _ c.in_default.ensures) c.enter-2.ensures
