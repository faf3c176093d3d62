-- Numbers of so many digits.
use Rattle.std.proofs.Common.{◌≡◌, arith, ℕ, suc, ◌+◌, ◌*◌, ◌^◌, ◌<◌, ◌≤◌}
use Rattle.std.proofs.Math.Nat.{pow-suc, pow-le-pow_left, pow-le-pow_right, mul-le-mul_right}

-- one digit more
pub one_more_digit : (base value digit k : ℕ) → value < base ^ k → digit < base → value * base + digit < base ^ suc k
one_more_digit base value digit k below less =
    let le : (value + 1) * base ≤ base ^ k * base = mul-le-mul_right {m = value + 1} {n = base ^ k} base (omega arith) in
    let parts : (value + 1) * base ≡ value * base + base = grind arith in
    let is : base ^ suc k ≡ base ^ k * base = pow-suc base k in
    omega (arith, le, parts, is, below, less)

-- eighteen decimal digits stay below 2 ^ 64
pub fits : (base k : ℕ) → base ≤ 10 → k ≤ 18 → base ^ k < 2 ^ 64
fits base k ten most =
    let left : base ^ k ≤ 10 ^ k = pow-le-pow_left {n = base} {m = 10} ten k in
    let right : 10 ^ k ≤ 10 ^ 18 = pow-le-pow_right {n = 10} (omega arith) {i = k} {j = 18} most in
    let end : 10 ^ 18 < 2 ^ 64 = omega arith in
    omega (arith, left, right, end)

pub more_digits : (base value k most : ℕ) → 1 ≤ base → value < base ^ k → k ≤ most → value < base ^ most
more_digits base value k most some below le =
    let right : base ^ k ≤ base ^ most = pow-le-pow_right {n = base} (omega arith) {i = k} {j = most} le in
    omega (arith, below, right)
