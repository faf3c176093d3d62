-- The names of temporary and held entries are names.
use Rattle.std.proofs.Common.{◌≡◌, ℕ, zero, suc, ◌≤◌, ◌<◌, ◌^◌, Bool, true, false, not, ◌&&◌, nat_le, nat_lt, List, [], ◌∷◌, ◌++◌, length, refl, ap, arith}
use Rattle.std.proofs.lemmas.Bool.{le-leb}
use Rattle.std.proofs.lemmas.Fmt.{IsAscii-decimal}
use Rattle.std.proofs.lemmas.Str.{IsUtf8-from_ascii, IsUtf8-append, is_utf8-from_IsUtf8}
use Rattle.std.proofs.lemmas.Str.Ascii.{IsAscii-nil}
use Rattle.std.proofs.lemmas.Bool.Decides.{nat_tests}
use Rattle.std.specs.List.{list_all}
use Rattle.std.specs.Prelude.{codes, decimal}
use Rattle.std.specs.Str.{IsUtf8, IsAscii, is_utf8}
use Rattle.dired_text.specs.Paths.{AreNames, is_name, is_name_byte, is_dots}
use Rattle.commit_steps.specs.Numbers.{is_digit, is_decimal}
use Rattle.commit_steps.specs.Staging.{staging_name, staged, temporary, held}
use Rattle.commit_steps.proofs.NumberLemmas.{Digits, decimal_is, number_holds}

and_first : (a b : Bool) → (a && b) ≡ true → a ≡ true
and_first true b e = refl
and_first false b e = cc

and_second : (a b : Bool) → (a && b) ≡ true → b ≡ true
and_second true b e = e
and_second false b e = cc

and_true : (a b : Bool) → a ≡ true → b ≡ true → (a && b) ≡ true
and_true true b ea eb = eb
and_true false b ea eb = cc

abbrev is_low : ℕ → Bool
is_low b = nat_lt b 128

low_below : (b : ℕ) → is_low b ≡ true → b < 128
low_below b e = grind (arith, nat_tests)

ascii-cons : (x : ℕ) (xs : List ℕ) → x < 128 → IsAscii xs → IsAscii (x ∷ xs)
ascii-cons x xs low others zero = low
ascii-cons x xs low others (suc i) = others i

pub ascii_by : (xs : List ℕ) → list_all is_low xs ≡ true → IsAscii xs
ascii_by [] e = IsAscii-nil
ascii_by (x ∷ xs) e = ascii-cons x xs (low_below x (and_first (is_low x) (list_all is_low xs) e)) (ascii_by xs (and_second (is_low x) (list_all is_low xs) e))

is_text : (x : List ℕ) → is_name x ≡ true → list_all is_low x ≡ true → (is_name x && is_utf8 x) ≡ true
is_text x name low = and_true (is_name x) (is_utf8 x) name (is_utf8-from_IsUtf8 x (IsUtf8-from_ascii x (ascii_by x low)))

staging_is : (is_name staging_name && is_utf8 staging_name) ≡ true
unfolding staging_name
staging_is = is_text staging_name refl refl

staged_by : (x : List ℕ) → (is_name x && is_utf8 x) ≡ true → AreNames (staged x)
staged_by x is = and_true (is_name staging_name && is_utf8 staging_name) ((is_name x && is_utf8 x) && true) staging_is (and_true (is_name x && is_utf8 x) true is refl)

-- ---- names with numbers

digit_byte : (b : ℕ) → is_digit b ≡ true → is_name_byte b ≡ true
digit_byte b e = grind (arith, nat_tests)

digit_bytes : (ds : List ℕ) → list_all is_digit ds ≡ true → list_all is_name_byte ds ≡ true
digit_bytes [] e = refl
digit_bytes (d ∷ ds) e = and_true (is_name_byte d) (list_all is_name_byte ds) (digit_byte d (and_first (is_digit d) (list_all is_digit ds) e)) (digit_bytes ds (and_second (is_digit d) (list_all is_digit ds) e))

decimal_digits : (m : ℕ) → m < 2 ^ 32 → Digits (decimal m)
decimal_digits m small = decimal_is (decimal m) (and_first (is_decimal (decimal m)) _ (number_holds (decimal m) record { number = m; small = small; is = refl }))

-- what is not `.` or `..`, and has 1 to 255 bytes, none of them a slash or NUL
by_parts : (x : List ℕ) → 1 ≤ length x → length x ≤ 255 → list_all is_name_byte x ≡ true → is_dots x ≡ false → IsUtf8 x → (is_name x && is_utf8 x) ≡ true
by_parts x some short bytes dots utf8 =
    and_true (is_name x) (is_utf8 x)
    (and_true (nat_le 1 (length x) && nat_le (length x) 255 && list_all is_name_byte x) (not (is_dots x))
    (and_true (nat_le 1 (length x) && nat_le (length x) 255) (list_all is_name_byte x)
    (and_true (nat_le 1 (length x)) (nat_le (length x) 255) (le-leb 1 (length x) some) (le-leb (length x) 255 short)) bytes)
    (ap not dots))
    (is_utf8-from_IsUtf8 x utf8)

utf8_behind : (front : List ℕ) (m : ℕ) → m < 2 ^ 32 → list_all is_low front ≡ true → IsUtf8 (front ++ decimal m)
utf8_behind front m small is = IsUtf8-append front (decimal m) (IsUtf8-from_ascii front (ascii_by front is)) (IsUtf8-from_ascii (decimal m) (IsAscii-decimal m (omega arith)))

pub temporary_names : (m : ℕ) → m < 2 ^ 32 → AreNames (staged (temporary m))
unfolding temporary
temporary_names m small =
    let d = decimal_digits m small in
    let short = d.short in
    staged_by (temporary m) (by_parts (temporary m) (omega arith) (omega arith) (digit_bytes (decimal m) d.digits) refl (utf8_behind (codes "t") m small refl))

pub held_names : (m : ℕ) → m < 2 ^ 32 → AreNames (staged (held m))
unfolding held
held_names m small =
    let d = decimal_digits m small in
    let short = d.short in
    staged_by (held m) (by_parts (held m) (omega arith) (omega arith) (digit_bytes (decimal m) d.digits) refl (utf8_behind (codes "h") m small refl))
