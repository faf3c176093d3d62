-- Decimal numbers are read as they are written.
use Rattle.std.proofs.Common.{◌≡◌, ℕ, zero, suc, ◌+◌, ◌*◌, ◌-◌, ◌^◌, ◌<◌, ◌≤◌, Bool, true, false, ◌&&◌, ◌||◌, not, ◌==◌, nat_le, List, [], ◌∷◌, length, get_or, Some, None, cond, min, refl, sym, ◌∙◌, ap, arith, lit<}
use Rattle.std.specs.List.{list_all}
use Rattle.std.specs.Char.{digit_value}
use Rattle.std.specs.Fmt.{decimal}
use Rattle.std.specs.Str.Parse.{digits_value, AllDigits}
use Rattle.std.proofs.lemmas.Bool.Decides.{nat_tests}
use Rattle.std.proofs.lemmas.Fmt.{decimal_is_IsNumeral, decimal_digit, decimal_nonempty, first_decimal, decimal-digits_value}
use Rattle.std.proofs.lemmas.Str.Parse.{IsNumeralModel}
use Rattle.commit_steps.specs.Numbers.{is_digit}
use Rattle.commit_steps.proofs.NumberLemmas.{and_both, and_make}
use Rattle.staging_names.specs.Numbers.{is_decimal, number_read}

digit_bounds : (c : ℕ) → is_digit c ≡ true → (48 ≤ c) × (c ≤ 57)
digit_bounds c e = grind (arith, nat_tests)

digit_is : (c : ℕ) → 48 ≤ c → c ≤ 57 → digit_value c ≡ c - 48
digit_is c low high = grind (arith, nat_tests)

digit_holds : (c : ℕ) → digit_value c < 10 → is_digit c ≡ true
digit_holds c h = grind (arith, nat_tests)

all_digits : (ds : List ℕ) → list_all is_digit ds ≡ true → AllDigits 10 ds
all_digits [] all = tt
all_digits (d ∷ ds) all =
    let parts = and_both (is_digit d) (list_all is_digit ds) all in
    let b = digit_bounds d parts.0 in
    let v : digit_value d ≡ d - 48 = digit_is d b.0 b.1 in
    (omega (arith, v, b.0, b.1), all_digits ds parts.1)

digits_hold : (ds : List ℕ) → AllDigits 10 ds → list_all is_digit ds ≡ true
digits_hold [] all = refl
digits_hold (d ∷ ds) all = and_make (is_digit d) (list_all is_digit ds) (digit_holds d all.0) (digits_hold ds all.1)

model : IsNumeralModel (AllDigits 10) (digits_value 10)
model = record { to = λ ds p. p; from = λ ds p. p; same = λ ds p. refl }

le_is : (m n : ℕ) → nat_le m n ≡ true → m ≤ n
le_is m n e = grind (arith, nat_tests)

le_holds : (m n : ℕ) → m ≤ n → nat_le m n ≡ true
le_holds m n h = grind (arith, nat_tests)

no_zero : (m n : ℕ) → (not (m == 48) || n == 1) ≡ true → m ≡ 48 → n ≡ 1
no_zero m n e z = grind (arith, nat_tests)

no_zero_holds : (m n : ℕ) → (m ≡ 48 → n ≡ 1) → (not (m == 48) || n == 1) ≡ true
no_zero_holds m n h = grind (arith, nat_tests)

-- ---- as it is written

first_digit : (n : ℕ) → n < 2 ^ 64 → get_or (decimal n) 0 0 ≡ 48 → length (decimal n) ≡ 1
first_digit zero small e = ap (λ (l : List ℕ). length l) (decimal_digit 0 (lit< tt))
first_digit (suc n) small e = let over = first_decimal (suc n) (omega arith) (omega arith) in absurd (omega arith)

decimal_holds : (n : ℕ) → n < 2 ^ 64 → is_decimal (decimal n) ≡ true
decimal_holds n small =
    let numeral = decimal_is_IsNumeral n small in
    and_make (nat_le 1 (length (decimal n)) && (not (get_or (decimal n) 0 0 == 48) || length (decimal n) == 1)) (list_all is_digit (decimal n))
    (and_make (nat_le 1 (length (decimal n))) (not (get_or (decimal n) 0 0 == 48) || length (decimal n) == 1)
    (le_holds 1 (length (decimal n)) (decimal_nonempty n small))
    (no_zero_holds (get_or (decimal n) 0 0) (length (decimal n)) (first_digit n small)))
    (digits_hold (decimal n) numeral.0.1)

least : (v n : ℕ) → v ≡ n → n < 2 ^ 64 → min v (2 ^ 64 - 1) ≡ n
least v n is small = omega arith

pub decimal_read : (n : ℕ) → n < 2 ^ 64 → number_read (decimal n) ≡ Some n
decimal_read n small =
    rw (decimal_holds n small) (ap (λ (m : ℕ). Some m) (least (digits_value 10 (decimal n)) n (decimal_is_IsNumeral n small).1 small))

-- ---- as it is read

some_same : (m n : ℕ) → Some m ≡ Some n → m ≡ n
some_same m n e = cc

not_capped : (v n : ℕ) → min v (2 ^ 64 - 1) ≡ n → n < 2 ^ 64 - 1 → v ≡ n
not_capped v n e small = omega arith

decimal_of : (ds : List ℕ) (n : ℕ) → is_decimal ds ≡ true → digits_value 10 ds ≡ n → n < 2 ^ 64 → ds ≡ decimal n
decimal_of ds n e value small =
    let p = and_both (nat_le 1 (length ds) && (not (get_or ds 0 0 == 48) || length ds == 1)) (list_all is_digit ds) e in
    let q = and_both (nat_le 1 (length ds)) (not (get_or ds 0 0 == 48) || length ds == 1) p.0 in
    let bound : digits_value 10 ds < 2 ^ 64 = omega arith in
    let back : decimal (digits_value 10 ds) ≡ ds = decimal-digits_value model ds (all_digits ds p.1) (le_is 1 (length ds) q.0) (no_zero (get_or ds 0 0) (length ds) q.1) bound in
    sym back ∙ ap (λ (m : ℕ). decimal m) value

by_test : (ds : List ℕ) (n : ℕ) (b : Bool) → is_decimal ds ≡ b → cond b (Some (min (digits_value 10 ds) (2 ^ 64 - 1))) None ≡ Some n → n < 2 ^ 64 - 1 → ds ≡ decimal n
by_test ds n true e read small = decimal_of ds n e (not_capped (digits_value 10 ds) n (some_same (min (digits_value 10 ds) (2 ^ 64 - 1)) n read) small) (omega arith)
by_test ds n false e read small = cc

pub decimal_was : (ds : List ℕ) (n : ℕ) → number_read ds ≡ Some n → n < 2 ^ 64 - 1 → ds ≡ decimal n
decimal_was ds n read small = by_test ds n (is_decimal ds) refl read small

-- ---- as it is counted

pub capped : (value digit before tens now : ℕ) → before ≡ min value (2 ^ 64 - 1) → tens ≡ min (before * 10) (2 ^ 64 - 1) → now ≡ min (tens + digit) (2 ^ 64 - 1)
    → now ≡ min (value * 10 + digit) (2 ^ 64 - 1)
capped value digit before tens now a b c = omega arith
