-- What the words on quoting compute to.
use Rattle.std.proofs.Common.{◌≡◌, ◌≢◌, ◌⊎◌, ◌==◌, if◌then◌else◌, ◌+◌, ◌<◌, length, take, get_or, sym, ◌∙◌, append_assoc, inl, inr, ℕ, ◌≤◌, true, false, codes, List, [], ◌∷◌, ◌++◌, refl, ap, arith, All, flat_map, encode_utf8, encode_utf8_all}
use Rattle.std.proofs.lemmas.Bool.{cases_lt, ne_eqb}
use Rattle.std.proofs.lemmas.List.{append-nil, take_more, length-take-le}
use Rattle.std.proofs.lemmas.List.Concat.{flat_map-append}
use Rattle.std.proofs.lemmas.List.Elements.{All-head, All-tail}
use Rattle.std.proofs.lemmas.Str.{encode_ascii, encodes-append}
use Rattle.shell_subst.proofs.Utf8Lemmas.{encode-high}
use Rattle.shell_subst.specs.Commands.{in_a_row}
use Rattle.std.specs.List.{list_all}
use Rattle.shell_subst.specs.Quoting.{quote_mark, within_quotes, is_plain, argument, quoted}

within-high : (bs : List ℕ) → All (λ b. 128 ≤ b) bs → flat_map within_quotes bs ≡ bs
within-high [] h = refl
within-high (b ∷ bs) h =
    let high : 128 ≤ b = All-head (λ b. 128 ≤ b) b bs h in
    rw (ne_eqb b 39 (λ e. omega arith)) (ap (λ l. b ∷ l) (within-high bs (All-tail (λ b. 128 ≤ b) b bs h)))

-- a character other than `'` stays
pub within-other : (c : ℕ) → c ≢ quote_mark → flat_map within_quotes (encode_utf8 c) ≡ encode_utf8 c
within-other c other = elim (cases_lt c 128) [
  | inl low ↦ rw (encode_ascii c low, ne_eqb c 39 other) refl
  | inr high ↦ within-high (encode_utf8 c) (encode-high c high)
]

-- one character more
pub within-push : (cs : List ℕ) (c : ℕ) → flat_map within_quotes (encode_utf8_all (cs ++ c ∷ [])) ≡ flat_map within_quotes (encode_utf8_all cs) ++ flat_map within_quotes (encode_utf8 c)
within-push cs c =
    rw (encodes-append cs (c ∷ []), append-nil (encode_utf8 c), flat_map-append within_quotes (encode_utf8_all cs) (encode_utf8 c)) refl

-- what stands in front of a name is plain
pub quoted-plain : (front name : List ℕ) → (front ≡ []) ⊎ (front ≡ codes "./") → argument name ≡ front ++ name → list_all is_plain name ≡ true → quoted name ≡ front ++ name
quoted-plain front name (inl none) e plain = rw (e, none, plain) refl
quoted-plain front name (inr dot) e plain = rw (e, dot, plain) refl

pub quoted-within : (front name : List ℕ) → (front ≡ []) ⊎ (front ≡ codes "./") → argument name ≡ front ++ name → list_all is_plain name ≡ false → quoted name ≡ quote_mark ∷ front ++ flat_map within_quotes name ++ quote_mark ∷ []
quoted-within front name (inl none) e plain = rw (e, none, plain) refl
quoted-within front name (inr dot) e plain = rw (e, dot, plain) refl

-- one name more in a row
pub row-push : (names : List (List ℕ)) (name : List ℕ) → in_a_row (names ++ name ∷ []) ≡ (if length names == 0 then quoted name else in_a_row names ++ 32 ∷ quoted name)
row-push [] name = append-nil (quoted name)
row-push (first ∷ names) name =
    let some : (length (first ∷ names) == 0) ≡ false = ne_eqb (length (first ∷ names)) 0 (λ e. omega arith) in
    rw (some, flat_map-append (λ (next : List ℕ). 32 ∷ quoted next) names (name ∷ []), append-nil (32 ∷ quoted name)) (sym (append_assoc (quoted first) (flat_map (λ (next : List ℕ). 32 ∷ quoted next) names) (32 ∷ quoted name)))

row-more : (names : List (List ℕ)) (i : ℕ) (d : List ℕ) → i < length names → in_a_row (take (i + 1) names) ≡ (if i == 0 then quoted (get_or names i d) else in_a_row (take i names) ++ 32 ∷ quoted (get_or names i d))
row-more names i d within =
    let count : length (take i names) ≡ i = length-take-le i names (omega arith) in
    ap in_a_row (take_more names i d within) ∙ row-push (take i names) (get_or names i d)
    ∙ ap (λ n. if n == 0 then quoted (get_or names i d) else in_a_row (take i names) ++ 32 ∷ quoted (get_or names i d)) count

pub row-first : (names : List (List ℕ)) (i : ℕ) (d row : List ℕ) → i ≤ 0 → i < length names → row ≡ in_a_row (take i names) → row ++ quoted (get_or names i d) ≡ in_a_row (take (i + 1) names)
row-first names i d row first within so_far =
    let zero_is : i ≡ 0 = omega arith in
    let none : row ≡ [] = so_far ∙ ap (λ n. in_a_row (take n names)) zero_is in
    let same : (i == 0) ≡ true = rw zero_is refl in
    ap (λ l. l ++ quoted (get_or names i d)) none ∙ sym (row-more names i d within ∙ rw same refl)

pub row-later : (names : List (List ℕ)) (i : ℕ) (d row : List ℕ) → 0 < i → i < length names → row ≡ in_a_row (take i names) → (row ++ 32 ∷ []) ++ quoted (get_or names i d) ≡ in_a_row (take (i + 1) names)
row-later names i d row some within so_far =
    let other : (i == 0) ≡ false = ne_eqb i 0 (λ e. omega arith) in
    append_assoc row (32 ∷ []) (quoted (get_or names i d)) ∙ ap (λ l. l ++ 32 ∷ quoted (get_or names i d)) so_far ∙ sym (row-more names i d within ∙ rw other refl)
