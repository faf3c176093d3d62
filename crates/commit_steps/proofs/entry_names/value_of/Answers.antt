use Rattle.std.proofs.Common.{◌≡◌, ℕ, ◌-◌, ◌+◌, ◌*◌, sym, ap, ◌∙◌, arith, get_or, take}
use Rattle.std.specs.Str.Parse.{digits_value}
use Rattle.std.proofs.lemmas.Int.Digits.{digits_value_more}
use Rattle.commit_steps.proofs.NumberLemmas.{value_small, decimal_is, digit_at, digit_value_at}
use Rattle.commit_steps.proofs.entry_names.value_of.Goals as goal

pub overflow_mul-value : goal.overflow_mul-value
overflow_mul-value c =
    let small = value_small c.args.digits.now c.loop-digit.digit-index (decimal_is c.args.digits.now c.requires).digits (decimal_is c.args.digits.now c.requires).short c.loop-digit-test.true in
    omega (arith, small, c.loop-digit.invariant)

pub overflow_add-value : goal.overflow_add-value
overflow_add-value c =
    let small = value_small c.args.digits.now c.loop-digit.digit-index (decimal_is c.args.digits.now c.requires).digits (decimal_is c.args.digits.now c.requires).short c.loop-digit-test.true in
    let digit = digit_at c.args.digits.now c.loop-digit.digit-index (decimal_is c.args.digits.now c.requires).digits c.loop-digit-test.true in
    let read : c.from.result ≡ get_or c.args.digits.now c.loop-digit.digit-index 0 - 48 = c.from.ensures in
    omega (arith, small, c.loop-digit.invariant, digit.1, read)

pub loop-digit-preserved : goal.loop-digit-preserved
loop-digit-preserved c =
    let more = digits_value_more 10 c.args.digits.now c.loop-digit.digit-index c.loop-digit-test.true in
    let value = digit_value_at c.args.digits.now c.loop-digit.digit-index (decimal_is c.args.digits.now c.requires).digits c.loop-digit-test.true in
    let read : c.from.result ≡ get_or c.args.digits.now c.loop-digit.digit-index 0 - 48 = c.from.ensures in
    ap (λ (n : ℕ). n * 10 + c.from.result) c.loop-digit.invariant
    ∙ ap (λ (n : ℕ). digits_value 10 (take c.loop-digit.digit-index c.args.digits.now) * 10 + n) (read ∙ sym value)
    ∙ sym more
