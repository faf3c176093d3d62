use Rattle.std.proofs.Common.{◌≡◌, sym, ◌∙◌, ap, Some, arith}
use Rattle.std.specs.Str.Parse.{digits_value}
use Rattle.listing_text.proofs.NumberLemmas.{parsed-ok, parsed-err, number_of-small, number_of-large}
use Rattle.listing_text.proofs.numbers.parse_up_to.Goals as goal

pub returns-then-number-most-clause-number : goal.returns-then-number-most-clause-number
returns-then-number-most-clause-number c =
    let value : c.in-Ok.number ≡ digits_value 10 c.args.digits.now = parsed-ok c.args.digits.now c.in-Ok.number c.requires c.in-Ok.ensures.value.0 in
    ap Some value ∙ sym (number_of-small c.args.most c.args.digits.now c.requires (omega arith))

pub returns-else-number-most-clause-number : goal.returns-else-number-most-clause-number
returns-else-number-most-clause-number c =
    let value : c.in-Ok.number ≡ digits_value 10 c.args.digits.now = parsed-ok c.args.digits.now c.in-Ok.number c.requires c.in-Ok.ensures.value.0 in
    sym (number_of-large c.args.most c.args.digits.now (omega arith))

pub returns-in-Err-clause-number : goal.returns-in-Err-clause-number
returns-in-Err-clause-number c =
    sym (number_of-large c.args.most c.args.digits.now (omega (arith, parsed-err c.args.digits.now c.requires c.in-Err.ensures.value.0)))
