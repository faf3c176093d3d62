-- Numbers and their decimal texts.
use Rattle.std.proofs.Common.{◌≡◌, ℕ, ◌+◌, ◌/◌, ◌%◌, ◌^◌, ◌<◌, ◌≤◌, Bool, true, false, not, ◌||◌, List, [], ◌∷◌, length, get_or, refl, ◌∙◌, ap, arith, Some, None, decimal, length-append, nat_le, suc, eqb, ◌==◌, inl, inr}
use Rattle.std.proofs.lemmas.Fmt.{decimal_step, decimal_digit}
use Rattle.std.specs.List.{list_all}
use Rattle.std.specs.Str.{IsUtf8}
use Rattle.std.specs.Str.Parse.{AllDigits, IsNumeral, digits_value, without_leading_plus}
use Rattle.std.proofs.lemmas.Bool.{cases_lt, and_parts, and_right, leb-true, le-leb, lt-leb, ne_eqb, eqb-true}
use Rattle.std.proofs.lemmas.Str.{IsUtf8-from_ascii, digit_value_digit}
use Rattle.std.proofs.lemmas.Fmt.{IsAscii-from_digits}
use Rattle.listing_text.specs.Numbers.{is_digit, is_decimal, number_of}

-- a digit more than the number without its last one has
pub length-decimal-step : (n : ℕ) → 10 ≤ n → n < 2 ^ 64 → length (decimal n) ≡ length (decimal (n / 10)) + 1
length-decimal-step n more small = ap length (decimal_step n more small) ∙ length-append (decimal (n / 10)) ((48 + n % 10) ∷ [])

pub length-decimal-digit : (n : ℕ) → n < 10 → length (decimal n) ≡ 1
length-decimal-digit n low = ap length (decimal_digit n low)

is_digit-bounds : (b : ℕ) → is_digit b ≡ true → (48 ≤ b) × (b ≤ 57)
is_digit-bounds b is = let parts = and_parts (nat_le 48 b) (nat_le b 57) is in (leb-true 48 b parts.0, leb-true b 57 parts.1)

pub digits-all : (ds : List ℕ) → list_all is_digit ds ≡ true → AllDigits 10 ds
digits-all [] is = tt
digits-all (d ∷ ds) is =
    let parts = and_parts (is_digit d) (list_all is_digit ds) is in
    let bounds = is_digit-bounds d parts.0 in
    (omega (arith, digit_value_digit d bounds), digits-all ds parts.1)

alone : (b : ℕ) (rest : Bool) → b ≡ 48 → (not (b == 48) || rest) ≡ true → rest ≡ true
alone b rest zero_first is = let e : eqb b 48 ≡ true = rw zero_first refl in rw e at is

-- the digits of a decimal text, of which the first is a zero only where it stands alone
pub decimal-digits : (text : List ℕ) → is_decimal text ≡ true → (list_all is_digit text ≡ true) × (0 < length text) × (get_or text 0 0 ≡ 48 → length text ≡ 1)
decimal-digits [] is = cc
decimal-digits (b ∷ bs) is =
    let parts = and_parts (list_all is_digit (b ∷ bs)) (not (b == 48) || (length bs == 0)) is in
    (parts.0, omega arith, λ zero_first. ap suc (eqb-true (length bs) 0 (alone b (length bs == 0) zero_first parts.1)))

decimal-numeral : (text : List ℕ) → is_decimal text ≡ true → IsNumeral 10 text
decimal-numeral text is = let parts = decimal-digits text is in (parts.1, digits-all text parts.0)

pub decimal-utf8 : (text : List ℕ) → is_decimal text ≡ true → IsUtf8 text
decimal-utf8 text is = IsUtf8-from_ascii text (IsAscii-from_digits text (decimal-numeral text is).1)

no_plus : (text : List ℕ) → is_decimal text ≡ true → without_leading_plus text ≡ text
no_plus [] is = cc
no_plus (b ∷ bs) is =
    let parts = and_parts (list_all is_digit (b ∷ bs)) (not (b == 48) || (length bs == 0)) is in
    let bounds = is_digit-bounds b (and_parts (is_digit b) (list_all is_digit bs) parts.0).0 in
    let other : eqb b 43 ≡ false = ne_eqb b 43 (λ e. let same : b ≡ 43 = e in omega arith) in
    rw other refl

pub number_of-small : (most : ℕ) (text : List ℕ) → is_decimal text ≡ true → digits_value 10 text ≤ most → number_of most text ≡ Some (digits_value 10 text)
unfolding number_of
number_of-small most text is low = rw (is, le-leb (digits_value 10 text) most low) refl

pub number_of-large : (most : ℕ) (text : List ℕ) → most < digits_value 10 text → number_of most text ≡ None
unfolding number_of
number_of-large most text high = rw (lt-leb (digits_value 10 text) most high, and_right (is_decimal text) false refl) refl

-- what parsing says of a decimal text
abbrev Parses : List ℕ → Type 0
Parses text = IsNumeral 10 (without_leading_plus text) × (digits_value 10 (without_leading_plus text) < 2 ^ 64)

pub parsed-ok : (text : List ℕ) (n : ℕ) → is_decimal text ≡ true → Parses text × (n ≡ digits_value 10 (without_leading_plus text)) → n ≡ digits_value 10 text
parsed-ok text n is parsed = parsed.1 ∙ ap (digits_value 10) (no_plus text is)

pub parsed-err : (text : List ℕ) → is_decimal text ≡ true → ¬ (Parses text) → 2 ^ 64 ≤ digits_value 10 text
parsed-err text is refused = elim (cases_lt (digits_value 10 text) (2 ^ 64)) [
  | inl small ↦ absurd (refused (rw (no_plus text is) (decimal-numeral text is, small)))
  | inr large ↦ large
]
