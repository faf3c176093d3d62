-- Escaped names: what bytes they have, that they are UTF-8, and where the arrow behind them is found.
use Rattle.std.proofs.Common.{◌≡◌, ◌≢◌, inl, inr, ℕ, ◌+◌, ◌/◌, ◌%◌, ◌<◌, ◌≤◌, Bool, true, false, not, ◌&&◌, ◌||◌, ◌==◌, nat_lt, if◌then◌else◌, List, [], ◌∷◌, ◌++◌, length, take, get_or, refl, sym, ◌∙◌, ap, subst, arith, Some, All, eqb, flat_map, encode_utf8_all}
use Rattle.std.specs.Char.{encode_utf8, IsScalar}
use Rattle.std.specs.List.{list_all}
use Rattle.std.specs.Str.{IsUtf8, IsAscii, bytes_eq}
use Rattle.std.proofs.lemmas.Bool.{cases_Bool, cases_eq, cases_lt, ne_eqb, or_cases, or_parts, and_parts, eqb-true, ltb-true, lt-ltb, le-leb, and_right}
use Rattle.std.proofs.lemmas.List.{get_or_past, append-nil}
use Rattle.std.proofs.lemmas.List.Elements.{All-get_or}
use Rattle.std.proofs.lemmas.List.Folds.{list_all-append}
use Rattle.std.proofs.lemmas.List.Sums.{AllPass-from_list_all}
use Rattle.std.proofs.lemmas.Str.{IsUtf8-append, IsUtf8-nil, IsUtf8-encode, IsUtf8-from_ascii, is_utf8-from_IsUtf8, encode_ascii}
use Rattle.std.proofs.lemmas.List.Concat.{flat_map-append}
use Rattle.std.proofs.Math.Utf8.{scalars, scalar}
use Rattle.dired_text.specs.Escape.{backslash, greater, is_control, octal, spelled, escaped}
use Rattle.dired_text.proofs.EscapeLemmas.{spelled-plain, flat_map-plain}
use Rattle.dired_text.proofs.RoundTrip.{text-back}
use Rattle.listing_text.specs.Fields.{plain_of, name_of, target_of, if_read, arrow_place}
use Rattle.listing_text.specs.Listed.{arrow}

-- a byte is spelled with bytes of a kind that has the backslash, `n`, `t` and octal digits, where it has each byte that is spelled as itself
octal-all : (p : ℕ → Bool) (b : ℕ) → b < 128 → p 92 ≡ true → ((d : ℕ) → d < 8 → p (48 + d) ≡ true) → list_all p (backslash ∷ octal b) ≡ true
octal-all p b low slash digit = rw (slash, digit (b / 64) (omega arith), digit (b / 8 % 8) (omega arith), digit (b % 8) (omega arith)) refl

escape-low : (in_link : Bool) (b : ℕ) → (is_control b || (in_link && eqb b greater)) ≡ true → b < 128
escape-low in_link b test = elim (or_cases (is_control b) (in_link && eqb b greater) test) [
  | inl control ↦ elim (or_cases (nat_lt b 32) (eqb b 127) control) [
    | inl low ↦ let least : b < 32 = ltb-true b 32 low in omega arith
    | inr last ↦ let same : b ≡ 127 = eqb-true b 127 last in omega arith
  ]
  | inr link ↦ let same : b ≡ greater = eqb-true b greater (and_parts in_link (eqb b greater) link).1 in omega arith
]

rest-all : (p : ℕ → Bool) (in_link : Bool) (b : ℕ) → p 92 ≡ true → ((d : ℕ) → d < 8 → p (48 + d) ≡ true) → ((is_control b || (in_link && eqb b greater)) ≡ false → p b ≡ true)
    → list_all p (if is_control b || (in_link && eqb b greater) then backslash ∷ octal b else b ∷ []) ≡ true
rest-all p in_link b slash digit plain = elim (cases_Bool (is_control b || (in_link && eqb b greater))) [
  | inl test ↦ rw test (octal-all p b (escape-low in_link b test) slash digit)
  | inr test ↦ rw (test, plain test) refl
]

spelled-all : (p : ℕ → Bool) (in_link : Bool) (b : ℕ) → p 92 ≡ true → p 110 ≡ true → p 116 ≡ true → ((d : ℕ) → d < 8 → p (48 + d) ≡ true) → ((is_control b || (in_link && eqb b greater)) ≡ false → p b ≡ true)
    → list_all p (spelled in_link b) ≡ true
spelled-all p in_link b slash n t digit plain =
    let Has : ℕ → Type 0 = λ c. list_all p (spelled in_link c) ≡ true in
    elim (cases_eq b 92) [
      | inl same ↦ subst Has (sym same) (rw slash refl)
      | inr not_slash ↦ elim (cases_eq b 10) [
        | inl same ↦ subst Has (sym same) (rw (slash, n) refl)
        | inr not_newline ↦ elim (cases_eq b 9) [
          | inl same ↦ subst Has (sym same) (rw (slash, t) refl)
          | inr not_tab ↦ rw (ne_eqb b 92 not_slash, ne_eqb b 10 not_newline, ne_eqb b 9 not_tab) (rest-all p in_link b slash digit plain)
        ]
      ]
    ]

pub is_other : ℕ → Bool
is_other b = not (b == 62)

-- the name of a link has no `>` when it is escaped
spelled-other : (b : ℕ) → list_all is_other (spelled true b) ≡ true
unfolding is_other
spelled-other b = spelled-all is_other true b refl refl refl
    (λ d low. let other : eqb (48 + d) 62 ≡ false = ne_eqb (48 + d) 62 (λ e. absurd (let same : 48 + d ≡ 62 = e in omega arith)) in rw other refl)
    (λ test. let parts = or_parts (is_control b) (eqb b greater) test in rw parts.1 refl)

pub escaped-other : (text : List ℕ) → list_all is_other (escaped true text) ≡ true
escaped-other [] = refl
escaped-other (b ∷ bs) = list_all-append is_other (spelled true b) (escaped true bs) ∙ rw (spelled-other b) (escaped-other bs)

-- so the first arrow behind it is the one that stands there
not-true : (b : Bool) → not b ≡ true → b ≡ false
not-true true e = sym e
not-true false e = refl

third : (b c d : ℕ) (t : List ℕ) → eqb d 62 ≡ false → bytes_eq (b ∷ c ∷ d ∷ t) arrow ≡ false
third b c d t other = rw other (rw (and_right (eqb c 45) false refl) (and_right (eqb b 32) false refl))

no-arrow : (b : ℕ) (x rest : List ℕ) → list_all is_other x ≡ true → bytes_eq (take 4 (b ∷ x ++ arrow ++ rest)) arrow ≡ false
unfolding is_other
no-arrow b [] rest all = third b 32 45 (62 ∷ []) refl
no-arrow b (c ∷ []) rest all = third b c 32 (45 ∷ []) refl
no-arrow b (c ∷ d ∷ x) rest all =
    let here : eqb d 62 ≡ false = not-true (eqb d 62) (and_parts (is_other d) (list_all is_other x) (and_parts (is_other c) (list_all is_other (d ∷ x)) all).1).0 in
    third b c d (take 1 (x ++ arrow ++ rest)) here

pub arrow-first : (x rest : List ℕ) → list_all is_other x ≡ true → arrow_place (x ++ arrow ++ rest) ≡ Some (length x)
unfolding arrow_place
arrow-first [] rest all = refl
arrow-first (b ∷ x) rest all =
    let parts = and_parts (is_other b) (list_all is_other x) all in
    rw (no-arrow b x rest parts.1, arrow-first x rest parts.1) refl

-- an escaped text is UTF-8
is_low : ℕ → Bool
is_low b = nat_lt b 128

low-ascii : (w : List ℕ) → list_all is_low w ≡ true → IsAscii w
unfolding is_low
low-ascii w all i = elim (cases_lt i (length w)) [
  | inl within ↦ ltb-true (get_or w i 0) 128 (All-get_or (λ b. is_low b ≡ true) w i 0 within (AllPass-from_list_all is_low w all))
  | inr past ↦ let none : get_or w i 0 ≡ 0 = get_or_past w i 0 past in omega arith
]

spelled-low : (in_link : Bool) (b : ℕ) → b < 128 → list_all is_low (spelled in_link b) ≡ true
unfolding is_low
spelled-low in_link b low = spelled-all is_low in_link b refl refl refl (λ d small. lt-ltb (48 + d) 128 (omega arith)) (λ test. lt-ltb b 128 low)

ascii-utf8 : (in_link : Bool) (c : ℕ) → c < 128 → IsUtf8 (flat_map (spelled in_link) (encode_utf8 c))
ascii-utf8 in_link c low =
    let same : flat_map (spelled in_link) (encode_utf8 c) ≡ spelled in_link c = ap (flat_map (spelled in_link)) (encode_ascii c low) ∙ append-nil (spelled in_link c) in
    subst IsUtf8 (sym same) (IsUtf8-from_ascii (spelled in_link c) (low-ascii (spelled in_link c) (spelled-low in_link c low)))

char-utf8 : (in_link : Bool) (c : ℕ) → IsScalar c → IsUtf8 (flat_map (spelled in_link) (encode_utf8 c))
char-utf8 in_link c scalar = elim (cases_lt c 128) [
  | inl low ↦ ascii-utf8 in_link c low
  | inr high ↦ let plain = spelled-plain in_link c (omega arith) (λ e. omega arith) (λ e. omega arith) (and_right in_link (eqb c 62) (ne_eqb c 62 (λ e. omega arith))) in
      subst IsUtf8 (sym (flat_map-plain in_link c plain)) (IsUtf8-encode c scalar)
]

chars-utf8 : (in_link : Bool) (cs : List ℕ) → scalars cs ≡ true → IsUtf8 (escaped in_link (encode_utf8_all cs))
chars-utf8 in_link [] are = IsUtf8-nil
chars-utf8 in_link (c ∷ cs) are =
    let parts = and_parts (scalar c) (scalars cs) are in
    let split : escaped in_link (encode_utf8_all (c ∷ cs)) ≡ flat_map (spelled in_link) (encode_utf8 c) ++ escaped in_link (encode_utf8_all cs) =
    flat_map-append (spelled in_link) (encode_utf8 c) (encode_utf8_all cs) in
    subst IsUtf8 (sym split) (IsUtf8-append (flat_map (spelled in_link) (encode_utf8 c)) (escaped in_link (encode_utf8_all cs)) (char-utf8 in_link c parts.0) (chars-utf8 in_link cs parts.1))

pub escaped-utf8 : (in_link : Bool) (text : List ℕ) → IsUtf8 text → IsUtf8 (escaped in_link text)
escaped-utf8 in_link text utf8 = subst (λ t. IsUtf8 (escaped in_link t)) utf8.1.1 (chars-utf8 in_link utf8.0 utf8.1.0)

-- so an escaped text is read as the text
pub plain-back : (in_link : Bool) (text : List ℕ) → IsUtf8 text → All (λ b. b ≢ 0) text → plain_of (escaped in_link text) ≡ Some text
unfolding plain_of
plain-back in_link text utf8 whole =
    rw (is_utf8-from_IsUtf8 (escaped in_link text) (escaped-utf8 in_link text utf8)) (ap if_read (text-back in_link text 0 whole))

pub name-back : (in_link : Bool) (text : List ℕ) → IsUtf8 text → All (λ b. b ≢ 0) text → 1 ≤ length text → name_of (escaped in_link text) ≡ Some text
unfolding name_of
name-back in_link text utf8 whole some = rw (plain-back in_link text utf8 whole, le-leb 1 (length text) some) refl

pub target-back : (text : List ℕ) → IsUtf8 text → All (λ b. b ≢ 0) text → 1 ≤ length text → length text ≤ 4095 → target_of (escaped false text) ≡ Some text
unfolding target_of
target-back text utf8 whole some short = rw (plain-back false text utf8 whole, le-leb 1 (length text) some, le-leb (length text) 4095 short) refl
