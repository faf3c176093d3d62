-- Places in bytes.
use Rattle.std.proofs.Common.{◌≡◌, ℕ, zero, suc, ◌+◌, List, [], ◌∷◌, ◌++◌, length, take, drop, refl, ap, ◌∙◌, arith, length-append, encode_utf8_all}
use Rattle.std.proofs.lemmas.Str.{encodes-append}
use Rattle.emacs_regexp.specs.Places.{byte_place}

pub take-one_more : (xs : List ℕ) (i : ℕ) → take (suc i) xs ≡ take i xs ++ take 1 (drop i xs)
take-one_more [] zero = refl
take-one_more [] (suc i) = refl
take-one_more (x ∷ xs) zero = refl
take-one_more (x ∷ xs) (suc i) = ap (λ l. x ∷ l) (take-one_more xs i)

-- one character more before a place
pub byte_place-next : (cs : List ℕ) (i : ℕ) → byte_place cs (i + 1) ≡ byte_place cs i + byte_place (drop i cs) 1
byte_place-next cs i =
    ap (byte_place cs) (let e : i + 1 ≡ suc i = omega arith in e)
    ∙ ap (λ l. length (encode_utf8_all l)) (take-one_more cs i)
    ∙ ap length (encodes-append (take i cs) (take 1 (drop i cs)))
    ∙ length-append (encode_utf8_all (take i cs)) (encode_utf8_all (take 1 (drop i cs)))
