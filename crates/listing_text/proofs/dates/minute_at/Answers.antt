use Rattle.std.proofs.Common.{◌∙◌, sym, ap, Some, rules, arith, to_z-of_z, w64, FitsSigned, refl}
use Rattle.listing_text.proofs.DateLemmas.{moment-none, moment-some, civil_minute-is}
use Rattle.listing_text.proofs.dates.minute_at.Goals as goal

pub returns-in-Err : goal.returns-in-Err
returns-in-Err c =
    sym (moment-none c.args.year c.args.month c.args.day c.args.hour c.args.minute (λ taken. let no = c.in-Err.ensures.succeeds.1 taken in cc))

pub returns-in-Ok : goal.returns-in-Ok
returns-in-Ok c =
    let k = c.in-Ok.ensures.value in
    let f : FitsSigned w64 c.minute_of_civil.result = search rules in
    ap Some (to_z-of_z f ∙ c.minute_of_civil.ensures ∙ civil_minute-is c.in-Ok.civil c.args.year c.args.month c.args.day c.args.hour c.args.minute (omega arith) (omega arith) (omega arith) (omega arith) (omega arith) k.0.0 k.0.1 k.0.2 k.1.0 k.1.1)
    ∙ sym (moment-some c.args.year c.args.month c.args.day c.args.hour c.args.minute (omega arith) (omega arith) (omega arith) (omega arith) (omega arith) (omega arith) (c.in-Ok.ensures.succeeds.0 refl))
