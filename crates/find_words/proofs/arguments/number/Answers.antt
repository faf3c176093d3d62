use Rattle.std.proofs.Common.{◌≡◌, ◌≤◌, ◌-◌, ap, rules, arith, suc, length}
use Rattle.find_words.proofs.NumberLemmas.{one_more_digit, fits, more_digits}
use Rattle.find_words.proofs.arguments.number.Goals as goal

pub overflow_mul-value : goal.overflow_mul-value
overflow_mul-value c =
    let base = c.args.base in
    let value = c.loop-c.value in
    let k = length c.args.digits.now - length c.loop-c.rest.now in
    let rest : length c.loop-c.rest.now ≡ suc (length c.in-Some.later.now) = ap length c.in-Some.ensures.cases.0 in
    let many : length c.args.digits.now ≤ c.args.most = search rules in
    let most : suc k ≤ 18 = omega (arith, rest, many, c.requires.most, c.loop-c.invariant.2) in
    let below = one_more_digit base value 0 k c.loop-c.invariant.1 (omega (arith, c.requires.some)) in
    let all = fits base (suc k) c.requires.base most in
    search (rules, below, all)

pub overflow_add-value : goal.overflow_add-value
overflow_add-value c =
    let base = c.args.base in
    let value = c.loop-c.value in
    let k = length c.args.digits.now - length c.loop-c.rest.now in
    let rest : length c.loop-c.rest.now ≡ suc (length c.in-Some.later.now) = ap length c.in-Some.ensures.cases.0 in
    let many : length c.args.digits.now ≤ c.args.most = search rules in
    let most : suc k ≤ 18 = omega (arith, rest, many, c.requires.most, c.loop-c.invariant.2) in
    let below = one_more_digit base value c.in_ok-value.field-0 k c.loop-c.invariant.1 c.in_ok-value.ensures.below in
    let all = fits base (suc k) c.requires.base most in
    search (rules, below, all)

pub loop-c-preserved : goal.loop-c-preserved
loop-c-preserved c =
    let base = c.args.base in
    let value = c.loop-c.value in
    let k = length c.args.digits.now - length c.loop-c.rest.now in
    let rest : length c.loop-c.rest.now ≡ suc (length c.in-Some.later.now) = ap length c.in-Some.ensures.cases.0 in
    let below = one_more_digit base value c.in_ok-value.field-0 k c.loop-c.invariant.1 c.in_ok-value.ensures.below in
    let count : suc k ≡ length c.args.digits.now - length c.in-Some.later.now = omega (arith, rest, c.loop-c.invariant.2) in (
      search rules,
      rw count at below,
      omega (arith, rest, c.loop-c.invariant.2),
    )

pub returns-clause-below : goal.returns-clause-below
returns-clause-below c =
    let k = length c.args.digits.now - length c.loop-c.rest.now in
    let many : length c.args.digits.now ≤ c.args.most = search rules in
    more_digits c.args.base c.loop-c.value k c.args.most c.requires.some c.loop-c.invariant.1 (omega (arith, many))
