-- What the words on fields compute to.
use Rattle.std.proofs.Common.{◌≡◌, inl, inr, ℕ, ◌-◌, ◌<◌, ◌≤◌, Bool, true, false, not, ◌&&◌, List, [], ◌∷◌, length, get_or, take, drop, refl, sym, ◌∙◌, ap, arith, Option, Some, None, nat_lt, nat_le, suc, ◌+◌, drop-cons, option_map, length-drop}
use Rattle.std.specs.List.{position, position_or_len, list_all}
use Rattle.std.specs.Option.{unwrap_or}
use Rattle.std.specs.Str.{IsUtf8, is_utf8, IsAscii, bytes_eq}
use Rattle.std.proofs.lemmas.Bool.{cases_Bool, cases_lt, ltb-false, leb-true, false_from_ne_true, and_parts}
use Rattle.std.proofs.lemmas.List.{get_or_past, drop_all, take_all}
use Rattle.std.proofs.lemmas.List.Elements.{All-get_or}
use Rattle.std.proofs.lemmas.List.Sums.{prefix_len-le-length, AllPass-from_list_all}
use Rattle.std.proofs.lemmas.Str.{IsUtf8-from_is_utf8, is_utf8-from_IsUtf8, IsUtf8-from_ascii}
use Rattle.dired_text.specs.Escape.{unescaped}
use Rattle.listing_text.specs.Fields.{is_word, is_word_byte, plain_of, if_read, arrow_place}
use Rattle.listing_text.specs.Listed.{arrow}

-- the place that was found, or the end
pub found_or_end : (p : ℕ → Bool) (xs : List ℕ) (found : Option ℕ) → found ≡ position p xs → unwrap_or found (length xs) ≡ position_or_len p xs
found_or_end p xs found e = rw e (elim (cases_Bool (nat_lt (position_or_len p xs) (length xs))) [
  | inl within ↦ rw within refl
  | inr past ↦ rw past (let bound : position_or_len p xs ≤ length xs = prefix_len-le-length (λ x. not (p x)) xs in
      let end : length xs ≤ position_or_len p xs = ltb-false (position_or_len p xs) (length xs) past in omega arith)
])

word-ascii : (w : List ℕ) → list_all is_word_byte w ≡ true → IsAscii w
word-ascii w all i =
    elim (cases_lt i (length w)) [
      | inl within ↦ let parts = and_parts (nat_le 33 (get_or w i 0)) (nat_le (get_or w i 0) 126) (All-get_or (λ b. is_word_byte b ≡ true) w i 0 within (AllPass-from_list_all is_word_byte w all)) in
          let high : get_or w i 0 ≤ 126 = leb-true (get_or w i 0) 126 parts.1 in omega arith
      | inr past ↦ let none : get_or w i 0 ≡ 0 = get_or_past w i 0 past in omega arith
    ]

-- a word is UTF-8
pub word-utf8 : (w : List ℕ) → is_word w ≡ true → IsUtf8 w
word-utf8 w is = IsUtf8-from_ascii w (word-ascii w (and_parts (nat_le 1 (length w) && nat_le (length w) 64) (list_all is_word_byte w) is).1)

pub plain-utf8 : (shown : List ℕ) → IsUtf8 shown → plain_of shown ≡ if_read (unescaped shown)
unfolding plain_of
plain-utf8 shown utf8 = rw (is_utf8-from_IsUtf8 shown utf8) refl

pub plain-is : (shown text : List ℕ) → IsUtf8 text → text ≡ shown → if_read (unescaped text) ≡ plain_of shown
plain-is shown text utf8 same = sym (plain-utf8 text utf8) ∙ ap plain_of same

pub plain-none : (shown : List ℕ) → ¬ (IsUtf8 shown) → plain_of shown ≡ None
unfolding plain_of
plain-none shown bad = rw (false_from_ne_true (is_utf8 shown) (λ t. bad (IsUtf8-from_is_utf8 shown t))) refl

pub arrow-here : (text : List ℕ) → 0 < length text → bytes_eq (take 4 text) arrow ≡ true → arrow_place text ≡ Some 0
unfolding arrow_place
arrow-here [] some is = absurd (omega arith)
arrow-here (b ∷ bs) some is = rw is refl

arrow-behind : (text : List ℕ) (i : ℕ) → i < length text → bytes_eq (take 4 (drop i text)) arrow ≡ false → arrow_place (drop i text) ≡ option_map suc (arrow_place (drop (i + 1) text))
unfolding arrow_place
arrow-behind text i within not_here =
    let split : drop i text ≡ get_or text i 0 ∷ drop (suc i) text = drop-cons text i 0 within in
    let next : suc i ≡ i + 1 = omega arith in
    let other : bytes_eq (take 4 (get_or text i 0 ∷ drop (suc i) text)) arrow ≡ false = ap (λ x. bytes_eq (take 4 x) arrow) (sym split) ∙ not_here in
    ap arrow_place split ∙ rw other (ap (λ n. option_map suc (arrow_place (drop n text))) next)

plus-suc : (i : ℕ) (o : Option ℕ) → option_map (λ n. n + i) (option_map suc o) ≡ option_map (λ n. n + (i + 1)) o
plus-suc i None = refl
plus-suc i (Some n) = ap Some (omega arith)

pub arrow-later : (text : List ℕ) (i : ℕ) → i < length text → bytes_eq (take 4 (drop i text)) arrow ≡ false
    → option_map (λ n. n + i) (arrow_place (drop i text)) ≡ option_map (λ n. n + (i + 1)) (arrow_place (drop (i + 1) text))
arrow-later text i within not_here = ap (option_map (λ n. n + i)) (arrow-behind text i within not_here) ∙ plus-suc i (arrow_place (drop (i + 1) text))

pub rest-whole : (text : List ℕ) (i : ℕ) → take (length text - i) (drop i text) ≡ drop i text
rest-whole text i = take_all (length text - i) (drop i text) (omega (arith, length-drop i text))

pub arrow-start : (o : Option ℕ) → option_map (λ n. n + 0) o ≡ o
arrow-start None = refl
arrow-start (Some n) = ap Some (omega arith)

pub arrow-none : (text : List ℕ) (i : ℕ) → length text ≤ i → arrow_place (drop i text) ≡ None
unfolding arrow_place
arrow-none text i past = ap arrow_place (drop_all i text past)
