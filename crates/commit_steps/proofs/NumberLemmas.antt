-- Digits, and the numbers of 32 bits that they write.
use Rattle.std.proofs.Common.{◌≡◌, ℕ, zero, suc, ◌-◌, ◌^◌, ◌<◌, ◌≤◌, Bool, true, false, ◌&&◌, ◌||◌, not, ◌==◌, nat_le, List, [], ◌∷◌, length, take, get_or, refl, sym, ◌∙◌, ap, arith, lit<}
use Rattle.std.specs.List.{list_all}
use Rattle.std.specs.Char.{digit_value}
use Rattle.std.specs.Fmt.{decimal}
use Rattle.std.specs.Str.Parse.{digits_value, AllDigits}
use Rattle.std.proofs.lemmas.Bool.Decides.{nat_tests}
use Rattle.std.proofs.lemmas.Fmt.{decimal_is_IsNumeral, decimal_digit, decimal_nonempty, first_decimal, length-decimal-le, decimal-digits_value}
use Rattle.std.proofs.lemmas.Int.Digits.{digits_value-lt}
use Rattle.std.proofs.lemmas.Str.Parse.{IsNumeralModel}
use Rattle.std.proofs.lemmas.List.{length-take-le}
use Rattle.std.proofs.Math.Nat.{pow-le-pow_right}
use Rattle.commit_steps.specs.Numbers.{is_digit, is_decimal, is_number, IsNumber}

pub and_both : (a b : Bool) → (a && b) ≡ true → (a ≡ true) × (b ≡ true)
and_both true b e = (refl, e)
and_both false b e = cc

pub and_make : (a b : Bool) → a ≡ true → b ≡ true → (a && b) ≡ true
and_make a b p q = cc

digit_bounds : (c : ℕ) → is_digit c ≡ true → (48 ≤ c) × (c ≤ 57)
digit_bounds c e = grind (arith, nat_tests)

digit_is : (c : ℕ) → 48 ≤ c → c ≤ 57 → digit_value c ≡ c - 48
digit_is c low high = grind (arith, nat_tests)

digit_holds : (c : ℕ) → digit_value c < 10 → is_digit c ≡ true
digit_holds c h = grind (arith, nat_tests)

pub digit_at : (ds : List ℕ) (i : ℕ) → list_all is_digit ds ≡ true → i < length ds → (48 ≤ get_or ds i 0) × (get_or ds i 0 ≤ 57)
digit_at [] i all within = absurd (omega arith)
digit_at (d ∷ ds) zero all within = digit_bounds d (and_both (is_digit d) _ all).0
digit_at (d ∷ ds) (suc i) all within = digit_at ds i (and_both (is_digit d) _ all).1 (omega arith)

pub digit_value_at : (ds : List ℕ) (i : ℕ) → list_all is_digit ds ≡ true → i < length ds → digit_value (get_or ds i 0) ≡ get_or ds i 0 - 48
digit_value_at ds i all within = let b = digit_at ds i all within in digit_is _ b.0 b.1

all_digits : (ds : List ℕ) → list_all is_digit ds ≡ true → AllDigits 10 ds
all_digits [] all = tt
all_digits (d ∷ ds) all =
    let parts = and_both (is_digit d) (list_all is_digit ds) all in
    let b = digit_bounds d parts.0 in
    let v : digit_value d ≡ d - 48 = digit_is d b.0 b.1 in
    (omega (arith, v, b.0, b.1), all_digits ds parts.1)

digits_hold : (ds : List ℕ) → AllDigits 10 ds → list_all is_digit ds ≡ true
digits_hold [] all = refl
digits_hold (d ∷ ds) all = and_make (is_digit d) (list_all is_digit ds) (digit_holds d all.0) (digits_hold ds all.1)

all_digits-take : (i : ℕ) (ds : List ℕ) → AllDigits 10 ds → AllDigits 10 (take i ds)
all_digits-take zero ds all = tt
all_digits-take (suc i) [] all = tt
all_digits-take (suc i) (d ∷ ds) all = (all.0, all_digits-take i ds all.1)

-- what is read of at most 10 digits before the last is small
pub value_small : (ds : List ℕ) (i : ℕ) → list_all is_digit ds ≡ true → length ds ≤ 10 → i < length ds → digits_value 10 (take i ds) < 1_000_000_000
value_small ds i all short within =
    let below : digits_value 10 (take i ds) < 10 ^ length (take i ds) = digits_value-lt 10 (take i ds) (all_digits-take i ds (all_digits ds all)) in
    let len : length (take i ds) ≡ i = length-take-le i ds (omega arith) in
    let most : 10 ^ length (take i ds) ≤ 10 ^ 9 = pow-le-pow_right {n = 10} (lit< tt) {i = length (take i ds)} {j = 9} (omega arith) in
    omega arith

model : IsNumeralModel (AllDigits 10) (digits_value 10)
model = record { to = λ ds p. p; from = λ ds p. p; same = λ ds p. refl }

-- ---- tests

le_is : (m n : ℕ) → nat_le m n ≡ true → m ≤ n
le_is m n e = grind (arith, nat_tests)

le_holds : (m n : ℕ) → m ≤ n → nat_le m n ≡ true
le_holds m n h = grind (arith, nat_tests)

no_zero : (m n : ℕ) → (not (m == 48) || n == 1) ≡ true → m ≡ 48 → n ≡ 1
no_zero m n e z = grind (arith, nat_tests)

no_zero_holds : (m n : ℕ) → (m ≡ 48 → n ≡ 1) → (not (m == 48) || n == 1) ≡ true
no_zero_holds m n h = grind (arith, nat_tests)

-- digits without a leading zero
pub record Digits (ds : List ℕ) : Type 0 where
  pub some : 0 < length ds
  pub short : length ds ≤ 10
  pub first : get_or ds 0 0 ≡ 48 → length ds ≡ 1
  pub digits : list_all is_digit ds ≡ true

pub decimal_is : (ds : List ℕ) → is_decimal ds ≡ true → Digits ds
decimal_is ds e =
    let p = and_both (nat_le 1 (length ds) && nat_le (length ds) 10 && (not (get_or ds 0 0 == 48) || length ds == 1)) (list_all is_digit ds) e in
    let q = and_both (nat_le 1 (length ds) && nat_le (length ds) 10) (not (get_or ds 0 0 == 48) || length ds == 1) p.0 in
    let r = and_both (nat_le 1 (length ds)) (nat_le (length ds) 10) q.0 in
    record { some = le_is 1 (length ds) r.0; short = le_is (length ds) 10 r.1; first = no_zero (get_or ds 0 0) (length ds) q.1; digits = p.1 }

decimal_holds : (ds : List ℕ) → Digits ds → is_decimal ds ≡ true
decimal_holds ds d =
    and_make (nat_le 1 (length ds) && nat_le (length ds) 10 && (not (get_or ds 0 0 == 48) || length ds == 1)) (list_all is_digit ds)
    (and_make (nat_le 1 (length ds) && nat_le (length ds) 10) (not (get_or ds 0 0 == 48) || length ds == 1)
    (and_make (nat_le 1 (length ds)) (nat_le (length ds) 10) (le_holds 1 (length ds) d.some) (le_holds (length ds) 10 d.short))
    (no_zero_holds (get_or ds 0 0) (length ds) d.first))
    d.digits

first_digit : (n : ℕ) → n < 2 ^ 32 → get_or (decimal n) 0 0 ≡ 48 → length (decimal n) ≡ 1
first_digit zero small e = ap (λ (l : List ℕ). length l) (decimal_digit 0 (lit< tt))
first_digit (suc n) small e = let over = first_decimal (suc n) (omega arith) (omega arith) in absurd (omega arith)

-- the test holds of just the numbers of 32 bits

pub number_is : (ds : List ℕ) → is_number ds ≡ true → IsNumber ds
number_is ds e =
    let p = and_both (is_decimal ds) (nat_le (digits_value 10 ds) 4_294_967_295) e in
    let d = decimal_is ds p.0 in
    let most = le_is (digits_value 10 ds) 4_294_967_295 p.1 in
    record {
      number = digits_value 10 ds;
      small = omega arith;
      is = sym (decimal-digits_value model ds (all_digits ds d.digits) d.some d.first (omega arith));
    }

decimal_number : (n : ℕ) → n < 2 ^ 32 → is_number (decimal n) ≡ true
decimal_number n small =
    let numeral = decimal_is_IsNumeral n (omega arith) in
    and_make (is_decimal (decimal n)) (nat_le (digits_value 10 (decimal n)) 4_294_967_295)
    (decimal_holds (decimal n) (record {
      some = decimal_nonempty n (omega arith);
      short = length-decimal-le 10 n (lit< tt) (omega arith) (omega arith);
      first = first_digit n small;
      digits = digits_hold (decimal n) numeral.0.1;
    }))
    (le_holds (digits_value 10 (decimal n)) 4_294_967_295 (omega (arith, numeral.1)))

pub number_holds : (ds : List ℕ) → IsNumber ds → is_number ds ≡ true
number_holds ds n = ap is_number n.is ∙ decimal_number n.number n.small
