-- The bytes of characters.
use Rattle.std.proofs.Common.{◌≡◌, ℕ, ◌≤◌, ◌<◌, inl, inr, [], get_or, length, sym, arith, All, encode_utf8}
use Rattle.std.proofs.lemmas.Bool.{cases_lt}
use Rattle.std.proofs.lemmas.List.{append-nil}
use Rattle.std.proofs.lemmas.List.Elements.{All-from_get_or}
use Rattle.std.proofs.lemmas.Str.{inside_one, length-encode, len_utf8_bounds}

-- each byte of a character that is not ASCII is high
pub encode-high : (c : ℕ) → 128 ≤ c → All (λ b. 128 ≤ b) (encode_utf8 c)
encode-high c high = All-from_get_or (λ b. 128 ≤ b) (encode_utf8 c) 0 (λ i within.
    elim (cases_lt (get_or (encode_utf8 c) i 0) 128) [
      | inl low ↦ let same : c ≡ get_or (encode_utf8 c) i 0 = inside_one c [] (encode_utf8 c) i (sym (append-nil (encode_utf8 c))) within low in omega arith
      | inr fine ↦ fine
    ])

pub encode-some : (c : ℕ) → 0 < length (encode_utf8 c)
encode-some c = let at_least = (len_utf8_bounds c).0 in omega (arith, length-encode c)
