use Rattle.std.proofs.Common.{arith}
use Rattle.std.proofs.lemmas.Fmt.{length-decimal-le}
use Rattle.listing_text.proofs.NumberLemmas.{length-decimal-step, length-decimal-digit}
use Rattle.listing_text.proofs.numbers.decimal_len.Goals as goal

pub overflow_add-len : goal.overflow_add-len
overflow_add-len c =
    let short = length-decimal-le 20 c.args.number (omega arith) (omega arith) (omega arith) in
    omega (arith, c.loop-rest.invariant.digits)

pub loop-rest-preserved : goal.loop-rest-preserved
loop-rest-preserved c = record {
  digits = omega (arith, c.loop-rest.invariant.digits, length-decimal-step c.loop-rest.rest (omega arith) c.loop-rest.invariant.small);
  small = omega (arith, c.loop-rest.invariant.small);
}

pub returns : goal.returns
returns c = omega (arith, c.loop-rest.invariant.digits, length-decimal-digit c.loop-rest.rest (omega arith))
