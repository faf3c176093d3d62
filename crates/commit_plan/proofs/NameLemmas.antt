-- The names of entries in the staging directory are names.
use Rattle.std.proofs.Common.{◌≡◌, ℕ, ◌==◌, ◌+◌, ◌<◌, ◌≤◌, ◌^◌, nat_le, Bool, true, false, ◌&&◌, List, [], ◌∷◌, ◌++◌, length, refl, ap, arith, decimal, length-append}
use Rattle.std.proofs.lemmas.List.{append-nil}
use Rattle.std.specs.List.{list_all}
use Rattle.dired_text.specs.Paths.{is_dots, is_name, is_name_byte, path_bytes, max_path_bytes}
use Rattle.commit_steps.specs.Numbers.{is_decimal, is_digit, IsNumber}
use Rattle.commit_steps.proofs.NumberLemmas.{decimal_is, number_holds}
use Rattle.commit_plan.specs.declared.names.Entry.{Entry}
use Rattle.commit_plan.specs.declared.names.Entry.TheVariants.{Temporary, Held, Fresh}
use Rattle.commit_plan.specs.Stands.{letter_of}
use Rattle.std.proofs.lemmas.Bool.Decides.{nat_tests}

le_holds : (m n : ℕ) → m ≤ n → nat_le m n ≡ true
le_holds m n h = grind (arith, nat_tests)

both : (a b : Bool) → (a && b) ≡ true → (a ≡ true) × (b ≡ true)
both true b e = (refl, e)
both false b e = cc

name_byte : (b : ℕ) → is_digit b ≡ true → is_name_byte b ≡ true
name_byte b e = grind (arith, nat_tests)

name_bytes : (ds : List ℕ) → list_all is_digit ds ≡ true → list_all is_name_byte ds ≡ true
name_bytes [] e = refl
name_bytes (d ∷ ds) e = let p = both (is_digit d) (list_all is_digit ds) e in rw (name_byte d p.0) (name_bytes ds p.1)

-- a byte of a name that is no dot, and a number behind it
name_of : (b : ℕ) (n : ℕ) → is_name_byte b ≡ true → (b == 46) ≡ false → n < 2 ^ 32 → is_name (b ∷ decimal n) ≡ true
name_of b n e f small =
    let number : IsNumber (decimal n) = record { number = n; small = small; is = refl } in
    let p = both (is_decimal (decimal n)) _ (number_holds (decimal n) number) in
    let d = decimal_is (decimal n) p.0 in
    let bytes : list_all is_name_byte (b ∷ decimal n) ≡ true = rw e (name_bytes (decimal n) d.digits) in
    let long : nat_le 1 (length (b ∷ decimal n)) ≡ true = grind (arith, nat_tests) in
    let short : nat_le (length (b ∷ decimal n)) 255 ≡ true = le_holds (length (b ∷ decimal n)) 255 (omega (arith, d.short)) in
    let dots : is_dots (b ∷ decimal n) ≡ false = rw f refl in
    rw (long, short, bytes, dots) refl

pub entry_name : (entry : Entry) (n : ℕ) → n < 2 ^ 32 → is_name (letter_of entry ++ decimal n) ≡ true
entry_name Temporary n small = name_of 116 n refl refl small
entry_name Held n small = name_of 104 n refl refl small
entry_name Fresh n small = name_of 102 n refl refl small

-- and their paths are short
short_of : (b n : ℕ) (staging : List ℕ) → length staging ≡ 14 → n < 2 ^ 32 → path_bytes (staging ∷ (b ∷ decimal n) ∷ []) ≤ max_path_bytes
short_of b n staging e small =
    let number : IsNumber (decimal n) = record { number = n; small = small; is = refl } in
    let p = both (is_decimal (decimal n)) _ (number_holds (decimal n) number) in
    let d = decimal_is (decimal n) p.0 in
    let k : length ((b ∷ decimal n) ++ []) ≡ length (b ∷ decimal n) = ap (λ (l : List ℕ). length l) (append-nil (b ∷ decimal n)) in
    let l : length (staging ++ 47 ∷ ((b ∷ decimal n) ++ [])) ≡ length staging + length (47 ∷ ((b ∷ decimal n) ++ [])) = length-append staging (47 ∷ ((b ∷ decimal n) ++ [])) in
    omega (arith, k, l, e, d.short)

pub entry_short : (entry : Entry) (n : ℕ) (staging : List ℕ) → length staging ≡ 14 → n < 2 ^ 32 → path_bytes (staging ∷ (letter_of entry ++ decimal n) ∷ []) ≤ max_path_bytes
entry_short Temporary n staging e small = short_of 116 n staging e small
entry_short Held n staging e small = short_of 104 n staging e small
entry_short Fresh n staging e small = short_of 102 n staging e small
