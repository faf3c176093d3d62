-- What stands in the place of a mark that stands alone.
use Rattle.std.proofs.Common.{◌≡◌, inl, inr, ℕ, Bool, true, false, ◌&&◌, ◌==◌, List, [], ◌∷◌, ◌++◌, take, refl, sym, ◌∙◌, ap, subst, flat_map, codes}
use Rattle.std.specs.List.{list_any}
use Rattle.std.specs.Str.{bytes_eq}
use Rattle.std.proofs.lemmas.Bool.{cases_Bool, and_parts, and_right, eqb-true, ne_eqb}
use Rattle.std.proofs.lemmas.List.Concat.{flat_map-append}
use Rattle.shell_subst.proofs.MarkLemmas.{Star, Question, Ticks, Stays, head, no_blank, star-first, question-first}
use Rattle.shell_subst.proofs.ScanLemmas.{stays}
use Rattle.shell_subst.specs.Commands.{Piece, Byte, AllNames, OneName, is_all_names, is_one_name, is_blank, is_blank_next, pieces_from, pieces, put, filled}
use Rattle.shell_subst.specs.Marks.{is_blank_last}

not_blank : (b mark : ℕ) → is_blank mark ≡ false → is_blank b ≡ true → b ≡ mark → ⊥
not_blank b mark other blank e = let no_byte : is_blank mark ≡ true = subst (λ (x : ℕ). is_blank x ≡ true) e blank in cc

blank-stays : (start : Bool) (b : ℕ) (bs : List ℕ) → is_blank b ≡ true → pieces_from start 0 (b ∷ bs) ≡ Byte b ∷ pieces_from (is_blank b) 0 bs
blank-stays start b bs blank = stays start b bs (inr (not_blank b 42 refl blank)) (inr (not_blank b 63 refl blank)) (not_blank b 96 refl blank)

-- whitespace decides by itself
blank-first : (start : Bool) (bs : List ℕ) → is_blank_next bs ≡ true → pieces_from start 0 bs ≡ pieces_from true 0 bs
blank-first start [] next = refl
blank-first start (b ∷ bs) next = blank-stays start b bs next ∙ sym (blank-stays true b bs next)

-- one byte, where what follows it doesn't change what it is
step : (start : Bool) (b : ℕ) (bs rest : List ℕ) (later : List Piece) → is_blank_next (bs ++ rest) ≡ is_blank_next bs → bytes_eq (take 3 (b ∷ (bs ++ rest))) (codes "`?`") ≡ bytes_eq (take 3 (b ∷ bs)) (codes "`?`") → pieces_from false 0 (bs ++ rest) ≡ pieces_from false 0 bs ++ later → (bytes_eq (take 3 (b ∷ bs)) (codes "`?`") ≡ true → pieces_from false 2 (bs ++ rest) ≡ pieces_from false 2 bs ++ later) → pieces_from (is_blank b) 0 (bs ++ rest) ≡ pieces_from (is_blank b) 0 bs ++ later → pieces_from start 0 (b ∷ (bs ++ rest)) ≡ pieces_from start 0 (b ∷ bs) ++ later
step start b bs rest later next ticks behind_mark behind_ticks behind_byte =
    elim (cases_Bool ((start && is_blank_next bs) && b == 42)) [
      | inl star ↦
          let star_too : ((start && is_blank_next (bs ++ rest)) && b == 42) ≡ true = ap (λ x. (start && x) && b == 42) next ∙ star in
          rw (star, star_too) (ap (λ l. AllNames ∷ l) behind_mark)
      | inr no_star ↦
          let no_star_too : ((start && is_blank_next (bs ++ rest)) && b == 42) ≡ false = ap (λ x. (start && x) && b == 42) next ∙ no_star in
          elim (cases_Bool ((start && is_blank_next bs) && b == 63)) [
            | inl question ↦
                let question_too : ((start && is_blank_next (bs ++ rest)) && b == 63) ≡ true = ap (λ x. (start && x) && b == 63) next ∙ question in
                rw (no_star, no_star_too, question, question_too) (ap (λ l. OneName ∷ l) behind_mark)
            | inr no_question ↦
                let no_question_too : ((start && is_blank_next (bs ++ rest)) && b == 63) ≡ false = ap (λ x. (start && x) && b == 63) next ∙ no_question in
                elim (cases_Bool (bytes_eq (take 3 (b ∷ bs)) (codes "`?`"))) [
                  | inl yes_ticks ↦
                      let ticks_too : bytes_eq (take 3 (b ∷ (bs ++ rest))) (codes "`?`") ≡ true = ticks ∙ yes_ticks in
                      rw (no_star, no_star_too, no_question, no_question_too, yes_ticks, ticks_too) (ap (λ l. OneName ∷ l) (behind_ticks yes_ticks))
                  | inr no_ticks ↦
                      let no_ticks_too : bytes_eq (take 3 (b ∷ (bs ++ rest))) (codes "`?`") ≡ false = ticks ∙ no_ticks in
                      rw (no_star, no_star_too, no_question, no_question_too, no_ticks, no_ticks_too) (ap (λ l. Byte b ∷ l) behind_byte)
                ]
          ]
    ]

no_ticks-2 : (b c : ℕ) (bs : List ℕ) → is_blank c ≡ true → bytes_eq (take 3 (b ∷ c ∷ bs)) (codes "`?`") ≡ false
no_ticks-2 b c [] blank = rw (ne_eqb c 63 (not_blank c 63 refl blank)) (and_right (b == 96) false refl)
no_ticks-2 b c (d ∷ bs) blank = rw (ne_eqb c 63 (not_blank c 63 refl blank)) (and_right (b == 96) false refl)

last_tick : (b c d : ℕ) (bs : List ℕ) → bytes_eq (take 3 (b ∷ c ∷ d ∷ bs)) (codes "`?`") ≡ true → d ≡ 96
last_tick b c d bs e = eqb-true d 96 (and_parts (d == 96) true (and_parts (c == 63) ((d == 96) && true) (and_parts (b == 96) ((c == 63) && ((d == 96) && true)) e).1).1).0

-- a mark that stands alone cuts a text in two
cut : (piece : Piece) (rest : List ℕ) (later : List Piece) → ((start : Bool) → start ≡ true → pieces_from start 0 rest ≡ piece ∷ later) → (start : Bool) (before : List ℕ) → is_blank_last start before ≡ true → pieces_from start 0 (before ++ rest) ≡ pieces_from start 0 before ++ piece ∷ later
cut piece rest later first start [] last = first start last
cut piece rest later first start (b ∷ []) last =
    blank-stays start b rest last ∙ ap (λ l. Byte b ∷ l) (first (is_blank b) last) ∙ sym (ap (λ l. l ++ piece ∷ later) (blank-stays start b [] last))
cut piece rest later first start (b ∷ c ∷ []) last =
    step start b (c ∷ []) rest (piece ∷ later) refl (no_ticks-2 b c rest last ∙ sym (no_ticks-2 b c [] last))
    (cut piece rest later first false (c ∷ []) last)
    (λ yes_ticks. absurd (let no : false ≡ true = sym (no_ticks-2 b c [] last) ∙ yes_ticks in cc))
    (cut piece rest later first (is_blank b) (c ∷ []) last)
cut piece rest later first start (b ∷ c ∷ d ∷ before) last =
    step start b (c ∷ d ∷ before) rest (piece ∷ later) refl refl
    (cut piece rest later first false (c ∷ d ∷ before) last)
    (λ yes_ticks. cut piece rest later first false before (no_blank d 96 before (last_tick b c d before yes_ticks) refl last))
    (cut piece rest later first (is_blank b) (c ∷ d ∷ before) last)

fill-cut : (shown : List ℕ) (piece : Piece) (before text after : List ℕ) → put shown piece ≡ shown → pieces text ≡ pieces before ++ piece ∷ pieces after → filled shown text ≡ filled shown before ++ (shown ++ filled shown after)
fill-cut shown piece before text after mark e =
    ap (flat_map (put shown)) e ∙ flat_map-append (put shown) (pieces before) (piece ∷ pieces after)
    ∙ ap (λ l. filled shown before ++ (l ++ filled shown after)) mark

pub star-replaced : (shown before after : List ℕ) → is_blank_last true before ≡ true → is_blank_next after ≡ true → filled shown (before ++ 42 ∷ after) ≡ filled shown before ++ (shown ++ filled shown after)
star-replaced shown before after last next =
    fill-cut shown AllNames before (before ++ 42 ∷ after) after refl
    (cut AllNames (42 ∷ after) (pieces after) (λ start begins. star-first start after begins next ∙ ap (λ l. AllNames ∷ l) (blank-first false after next)) true before last)

pub question-replaced : (shown before after : List ℕ) → is_blank_last true before ≡ true → is_blank_next after ≡ true → filled shown (before ++ 63 ∷ after) ≡ filled shown before ++ (shown ++ filled shown after)
question-replaced shown before after last next =
    fill-cut shown OneName before (before ++ 63 ∷ after) after refl
    (cut OneName (63 ∷ after) (pieces after) (λ start begins. question-first start after begins next ∙ ap (λ l. OneName ∷ l) (blank-first false after next)) true before last)

bytes-stay : (shown : List ℕ) (start : Bool) (bs : List ℕ) → list_any is_all_names (pieces_from start 0 bs) ≡ false → list_any is_one_name (pieces_from start 0 bs) ≡ false → flat_map (put shown) (pieces_from start 0 bs) ≡ bs
bytes-stay shown start [] no_all no_one = refl
bytes-stay shown start (b ∷ bs) no_all no_one = elim (head start b bs) [
  | Star is begins next e ↦ absurd (let found : true ≡ false = rw e at no_all in cc)
  | Question is begins next e ↦ absurd (let found : true ≡ false = rw e at no_one in cc)
  | Ticks rest is follow e ↦ absurd (let found : true ≡ false = rw e at no_one in cc)
  | Stays e ↦
      let all : list_any is_all_names (pieces_from (is_blank b) 0 bs) ≡ false = ap (list_any is_all_names) (sym e) ∙ no_all in
      let one : list_any is_one_name (pieces_from (is_blank b) 0 bs) ≡ false = ap (list_any is_one_name) (sym e) ∙ no_one in
      ap (flat_map (put shown)) e ∙ ap (λ l. b ∷ l) (bytes-stay shown (is_blank b) bs all one)
]

pub rest-stays : (shown text : List ℕ) → list_any is_all_names (pieces text) ≡ false → list_any is_one_name (pieces text) ≡ false → filled shown text ≡ text
rest-stays shown text no_all no_one = bytes-stay shown true text no_all no_one
