-- What the words on pieces compute to, token by token.
use Rattle.std.proofs.Common.{◌≡◌, ◌≢◌, ◌⊎◌, inl, inr, ℕ, ◌<◌, ◌≤◌, Bool, false, true, ◌&&◌, ◌||◌, ◌==◌, List, [], ◌∷◌, ◌++◌, length, map, refl, sym, ◌∙◌, ap, arith, All, flat_map, encode_utf8, append_assoc}
use Rattle.std.specs.List.{list_any}
use Rattle.std.proofs.lemmas.Bool.{cases_lt, ne_eqb, and_right}
use Rattle.std.proofs.lemmas.List.Concat.{flat_map-append}
use Rattle.std.proofs.lemmas.List.Elements.{All-head, All-tail}
use Rattle.std.proofs.lemmas.List.Folds.{list_any-append}
use Rattle.std.proofs.lemmas.Str.{encode_ascii}
use Rattle.shell_subst.proofs.Utf8Lemmas.{encode-high, encode-some}
use Rattle.shell_subst.specs.Commands.{Piece, Byte, is_all_names, is_one_name, is_blank, is_blank_next, pieces_from, put}
use Rattle.shell_subst.specs.Scan.{token_pieces, is_blank_token, Cuts}
use Rattle.shell_subst.specs.declared.scanning.Token.{Token}

not_mark : (is_alone : Bool) (c mark : ℕ) → (is_alone ≡ false) ⊎ (c ≢ mark) → (is_alone && c == mark) ≡ false
not_mark is_alone c mark (inl none) = rw none refl
not_mark is_alone c mark (inr other) = and_right is_alone (c == mark) (ne_eqb c mark other)

-- a byte that begins no mark stays
pub stays : (after_blank : Bool) (b : ℕ) (bs : List ℕ) → ((after_blank && is_blank_next bs) ≡ false) ⊎ (b ≢ 42) → ((after_blank && is_blank_next bs) ≡ false) ⊎ (b ≢ 63) → b ≢ 96 → pieces_from after_blank 0 (b ∷ bs) ≡ Byte b ∷ pieces_from (is_blank b) 0 bs
stays after_blank b bs star question tick =
    rw (not_mark (after_blank && is_blank_next bs) b 42 star, not_mark (after_blank && is_blank_next bs) b 63 question, ne_eqb b 96 tick) refl

stays-high : (after_blank : Bool) (b : ℕ) (bs : List ℕ) → 128 ≤ b → pieces_from after_blank 0 (b ∷ bs) ≡ Byte b ∷ pieces_from false 0 bs
stays-high after_blank b bs high =
    let blank : is_blank b ≡ false = rw (ne_eqb b 32 (λ e. omega arith), ne_eqb b 9 (λ e. omega arith)) refl in
    stays after_blank b bs (inr (λ e. omega arith)) (inr (λ e. omega arith)) (λ e. omega arith) ∙ ap (λ x. Byte b ∷ pieces_from x 0 bs) blank

all-high : (bs later : List ℕ) → All (λ b. 128 ≤ b) bs → pieces_from false 0 (bs ++ later) ≡ map Byte bs ++ pieces_from false 0 later
all-high [] later h = refl
all-high (b ∷ bs) later h =
    stays-high false b (bs ++ later) (All-head (λ b. 128 ≤ b) b bs h) ∙ ap (λ l. Byte b ∷ l) (all-high bs later (All-tail (λ b. 128 ≤ b) b bs h))

some-high : (after_blank : Bool) (bs later : List ℕ) → All (λ b. 128 ≤ b) bs → 0 < length bs → pieces_from after_blank 0 (bs ++ later) ≡ map Byte bs ++ pieces_from false 0 later
some-high after_blank [] later h some = absurd (omega arith)
some-high after_blank (b ∷ bs) later h some =
    stays-high after_blank b (bs ++ later) (All-head (λ b. 128 ≤ b) b bs h) ∙ ap (λ l. Byte b ∷ l) (all-high bs later (All-tail (λ b. 128 ≤ b) b bs h))

-- a character that is no mark
pub char-stays : (after_blank : Bool) (c : ℕ) (text later : List ℕ) → text ≡ encode_utf8 c ++ later → ((after_blank && is_blank_next later) ≡ false) ⊎ (c ≢ 42) → ((after_blank && is_blank_next later) ≡ false) ⊎ (c ≢ 63) → c ≢ 96 → pieces_from after_blank 0 text ≡ map Byte (encode_utf8 c) ++ pieces_from (is_blank c) 0 later
char-stays after_blank c text later parts star question tick = elim (cases_lt c 128) [
  | inl low ↦ rw (parts, encode_ascii c low) (stays after_blank c later star question tick)
  | inr high ↦
      let blank : is_blank c ≡ false = rw (ne_eqb c 32 (λ e. omega arith), ne_eqb c 9 (λ e. omega arith)) refl in
      rw (parts, blank) (some-high after_blank (encode_utf8 c) later (encode-high c high) (encode-some c))
]

no-all : (bs : List ℕ) → list_any is_all_names (map Byte bs) ≡ false
no-all [] = refl
no-all (b ∷ bs) = no-all bs

no-one : (bs : List ℕ) → list_any is_one_name (map Byte bs) ≡ false
no-one [] = refl
no-one (b ∷ bs) = no-one bs

pub char-no-all : (c : ℕ) → list_any is_all_names (map Byte (encode_utf8 c)) ≡ false
char-no-all c = no-all (encode_utf8 c)

pub char-no-one : (c : ℕ) → list_any is_one_name (map Byte (encode_utf8 c)) ≡ false
char-no-one c = no-one (encode_utf8 c)

or_assoc : (a b c : Bool) → (a || (b || c)) ≡ ((a || b) || c)
or_assoc true b c = refl
or_assoc false b c = refl

-- what was found, past one token
pub found-past : (kind : Piece → Bool) (whole found after_blank : Bool) (text later : List ℕ) (token : Token) → whole ≡ (found || list_any kind (pieces_from after_blank 0 text)) → Cuts after_blank text token later → whole ≡ ((found || list_any kind (token_pieces token)) || list_any kind (pieces_from (is_blank_token token) 0 later))
found-past kind whole found after_blank text later token so_far cut =
    let more = pieces_from (is_blank_token token) 0 later in
    so_far
    ∙ ap (λ ps. found || list_any kind ps) cut.0
    ∙ ap (λ x. found || x) (list_any-append kind (token_pieces token) more)
    ∙ or_assoc found (list_any kind (token_pieces token)) (list_any kind more)

put-bytes : (shown bs : List ℕ) → flat_map (put shown) (map Byte bs) ≡ bs
put-bytes shown [] = refl
put-bytes shown (b ∷ bs) = ap (λ l. b ∷ l) (put-bytes shown bs)

pub put-char : (shown : List ℕ) (c : ℕ) → flat_map (put shown) (map Byte (encode_utf8 c)) ≡ encode_utf8 c
put-char shown c = put-bytes shown (encode_utf8 c)

-- what was put, past one token
pub filled-past : (shown whole done text later : List ℕ) (after_blank : Bool) (token : Token) → whole ≡ done ++ flat_map (put shown) (pieces_from after_blank 0 text) → Cuts after_blank text token later → whole ≡ (done ++ flat_map (put shown) (token_pieces token)) ++ flat_map (put shown) (pieces_from (is_blank_token token) 0 later)
filled-past shown whole done text later after_blank token so_far cut =
    let more = pieces_from (is_blank_token token) 0 later in
    so_far
    ∙ ap (λ ps. done ++ flat_map (put shown) ps) cut.0
    ∙ ap (λ x. done ++ x) (flat_map-append (put shown) (token_pieces token) more)
    ∙ sym (append_assoc done (flat_map (put shown) (token_pieces token)) (flat_map (put shown) more))

pub or_true : (a : Bool) → true ≡ (a || true)
or_true true = refl
or_true false = refl

pub or_false : (a : Bool) → a ≡ (a || false)
or_false true = refl
or_false false = refl
