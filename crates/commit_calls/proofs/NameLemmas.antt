-- The numbered names of the staging directory are names.
use Rattle.std.proofs.Common.{◌≡◌, ℕ, ◌==◌, ◌<◌, ◌≤◌, ◌^◌, nat_le, true, false, List, [], ◌∷◌, ◌++◌, length, refl, ◌∙◌, arith, decimal, length-append, lit<}
use Rattle.std.specs.Char.{digit_value}
use Rattle.std.specs.List.{list_all}
use Rattle.std.specs.Str.Parse.{AllDigits}
use Rattle.std.proofs.lemmas.Bool.Decides.{nat_tests}
use Rattle.std.proofs.lemmas.Fmt.{decimal_is_IsNumeral, length-decimal-le}
use Rattle.std.proofs.lemmas.List.Folds.{list_all-append}
use Rattle.dired_text.specs.Paths.{is_dots, is_name, is_name_byte}
use Rattle.commit_calls.specs.declared.paths.Numbered.{Numbered}
use Rattle.commit_calls.specs.declared.paths.Numbered.TheVariants.{At, Back, Fresh, Held}
use Rattle.commit_calls.specs.Paths.{letters_of}

le_holds : (m n : ℕ) → m ≤ n → nat_le m n ≡ true
le_holds m n h = grind (arith, nat_tests)

name_byte : (c : ℕ) → digit_value c < 10 → is_name_byte c ≡ true
name_byte c h = grind (arith, nat_tests)

name_bytes : (ds : List ℕ) → AllDigits 10 ds → list_all is_name_byte ds ≡ true
name_bytes [] all = refl
name_bytes (d ∷ ds) all = rw (name_byte d all.0) (name_bytes ds all.1)

-- letters, the first of which is no dot, and a number behind them
name_of : (b : ℕ) (bs : List ℕ) (n : ℕ) → list_all is_name_byte (b ∷ bs) ≡ true → (b == 46) ≡ false → length bs ≤ 4 → n < 2 ^ 64 → is_name ((b ∷ bs) ++ decimal n) ≡ true
name_of b bs n e f few small =
    let d = decimal_is_IsNumeral n small in
    let most : length (decimal n) ≤ 20 = length-decimal-le 20 n (lit< tt) (omega arith) small in
    let size = length-append (b ∷ bs) (decimal n) in
    let bytes : list_all is_name_byte ((b ∷ bs) ++ decimal n) ≡ true = list_all-append is_name_byte (b ∷ bs) (decimal n) ∙ rw (e, name_bytes (decimal n) d.0.1) refl in
    let long : nat_le 1 (length ((b ∷ bs) ++ decimal n)) ≡ true = le_holds 1 (length ((b ∷ bs) ++ decimal n)) (omega arith) in
    let short : nat_le (length ((b ∷ bs) ++ decimal n)) 255 ≡ true = le_holds (length ((b ∷ bs) ++ decimal n)) 255 (omega arith) in
    let dots : is_dots ((b ∷ bs) ++ decimal n) ≡ false = rw f refl in
    rw (long, short, bytes, dots) refl

pub numbered_name : (what : Numbered) (n : ℕ) → n < 2 ^ 64 → is_name (letters_of what ++ decimal n) ≡ true
numbered_name At n small = name_of 97 (116 ∷ 45 ∷ []) n refl refl (omega arith) small
numbered_name Back n small = name_of 98 (97 ∷ 99 ∷ 107 ∷ 45 ∷ []) n refl refl (omega arith) small
numbered_name Fresh n small = name_of 102 [] n refl refl (omega arith) small
numbered_name Held n small = name_of 104 [] n refl refl (omega arith) small
