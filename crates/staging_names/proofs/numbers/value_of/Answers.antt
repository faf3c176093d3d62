use Rattle.std.proofs.Common.{◌≡◌, ℕ, ◌-◌, ◌+◌, ◌*◌, ◌^◌, min, sym, ap, ◌∙◌, get_or, take}
use Rattle.std.specs.Str.Parse.{digits_value}
use Rattle.std.proofs.lemmas.Int.Digits.{digits_value_more}
use Rattle.commit_steps.proofs.NumberLemmas.{digit_value_at}
use Rattle.staging_names.proofs.NumberLemmas.{capped}
use Rattle.staging_names.proofs.numbers.value_of.Goals as goal

pub loop-digit-preserved : goal.loop-digit-preserved
loop-digit-preserved c =
    let more = digits_value_more 10 c.args.digits.now c.loop-digit.digit-index c.loop-digit-test.true in
    let value = digit_value_at c.args.digits.now c.loop-digit.digit-index c.requires c.loop-digit-test.true in
    let read : c.from.result ≡ get_or c.args.digits.now c.loop-digit.digit-index 0 - 48 = c.from.ensures in
    capped (digits_value 10 (take c.loop-digit.digit-index c.args.digits.now)) c.from.result c.loop-digit.value c.saturating_mul.result c.saturating_add-value.result
    c.loop-digit.invariant c.saturating_mul.ensures c.saturating_add-value.ensures
    ∙ ap (λ (n : ℕ). min (digits_value 10 (take c.loop-digit.digit-index c.args.digits.now) * 10 + n) (2 ^ 64 - 1)) (read ∙ sym value)
    ∙ ap (λ (n : ℕ). min n (2 ^ 64 - 1)) (sym more)
