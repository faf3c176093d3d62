-- The marks of a text are where they are said to stand.
use Rattle.std.proofs.Common.{◌≡◌, ◌⊎◌, ◌↔◌, arith, inl, inr, ℕ, zero, suc, Bool, true, false, ◌&&◌, ◌||◌, ◌==◌, List, [], ◌∷◌, ◌++◌, take, refl, sym, ◌∙◌, ap, subst, codes}
use Rattle.std.specs.List.{list_any}
use Rattle.std.specs.Str.{bytes_eq}
use Rattle.std.proofs.lemmas.Bool.{cases_Bool, and_parts, and_right, eqb-true}
use Rattle.shell_subst.specs.Commands.{Piece, Byte, AllNames, OneName, is_all_names, is_one_name, is_blank, is_blank_next, pieces_from, pieces}
use Rattle.shell_subst.specs.Marks.{is_blank_last, StandsAlone, StandsInBackquotes}

-- what stands at the head of a text
pub data Head (start : Bool) (b : ℕ) (bs : List ℕ) : Type 0 where
  Star : b ≡ 42 → start ≡ true → is_blank_next bs ≡ true → pieces_from start 0 (b ∷ bs) ≡ AllNames ∷ pieces_from false 0 bs → Head start b bs
  Question : b ≡ 63 → start ≡ true → is_blank_next bs ≡ true → pieces_from start 0 (b ∷ bs) ≡ OneName ∷ pieces_from false 0 bs → Head start b bs
  Ticks : (rest : List ℕ) → b ≡ 96 → bs ≡ 63 ∷ 96 ∷ rest → pieces_from start 0 (b ∷ bs) ≡ OneName ∷ pieces_from false 2 bs → Head start b bs
  Stays : pieces_from start 0 (b ∷ bs) ≡ Byte b ∷ pieces_from (is_blank b) 0 bs → Head start b bs

ticked-parts : (b : ℕ) (bs : List ℕ) → bytes_eq (take 3 (b ∷ bs)) (codes "`?`") ≡ true → (rest : List ℕ) × (b ≡ 96) × (bs ≡ 63 ∷ 96 ∷ rest)
ticked-parts b [] e = let none : (b == 96) && false ≡ true = e in absurd (let no : false ≡ true = sym (and_right (b == 96) false refl) ∙ none in cc)
ticked-parts b (c ∷ []) e =
    let parts = and_parts (b == 96) ((c == 63) && false) e in
    absurd (let no : false ≡ true = sym (and_right (c == 63) false refl) ∙ parts.1 in cc)
ticked-parts b (c ∷ d ∷ rest) e =
    let first = and_parts (b == 96) ((c == 63) && ((d == 96) && true)) e in
    let second = and_parts (c == 63) ((d == 96) && true) first.1 in
    let third = and_parts (d == 96) true second.1 in
    let c_is : c ≡ 63 = eqb-true c 63 second.0 in
    let d_is : d ≡ 96 = eqb-true d 96 third.0 in
    (rest, eqb-true b 96 first.0, rw (c_is, d_is) refl)

pub head : (start : Bool) (b : ℕ) (bs : List ℕ) → Head start b bs
head start b bs = elim (cases_Bool ((start && is_blank_next bs) && b == 42)) [
  | inl star ↦
      let parts = and_parts (start && is_blank_next bs) (b == 42) star in
      let alone = and_parts start (is_blank_next bs) parts.0 in
      Star (eqb-true b 42 parts.1) alone.0 alone.1 (rw star refl)
  | inr no_star ↦ elim (cases_Bool ((start && is_blank_next bs) && b == 63)) [
    | inl question ↦
        let parts = and_parts (start && is_blank_next bs) (b == 63) question in
        let alone = and_parts start (is_blank_next bs) parts.0 in
        Question (eqb-true b 63 parts.1) alone.0 alone.1 (rw (no_star, question) refl)
    | inr no_question ↦ elim (cases_Bool (bytes_eq (take 3 (b ∷ bs)) (codes "`?`"))) [
      | inl ticks ↦
          let parts = ticked-parts b bs ticks in
          Ticks parts.0 parts.1 parts.2 (rw (no_star, no_question, ticks) refl)
      | inr no_ticks ↦ Stays (rw (no_star, no_question, no_ticks) refl)
    ]
  ]
]

told_anyway : (told : Bool) (bs : List ℕ) → is_blank_last false bs ≡ true → is_blank_last told bs ≡ true
told_anyway told [] e = absurd (cc)
told_anyway told (b ∷ bs) e = e

further : (start : Bool) (mark b : ℕ) (bs : List ℕ) → StandsAlone false mark bs → StandsAlone start mark (b ∷ bs)
further start mark b bs (before, after, is, last, next) = (b ∷ before, after, ap (λ l. b ∷ l) is, told_anyway (is_blank b) before last, next)

past_byte : (start : Bool) (mark b : ℕ) (bs : List ℕ) → StandsAlone (is_blank b) mark bs → StandsAlone start mark (b ∷ bs)
past_byte start mark b bs (before, after, is, last, next) = (b ∷ before, after, ap (λ l. b ∷ l) is, last, next)

here : (start : Bool) (mark b : ℕ) (bs : List ℕ) → b ≡ mark → start ≡ true → is_blank_next bs ≡ true → StandsAlone start mark (b ∷ bs)
here start mark b bs is begins next = ([], bs, ap (λ x. x ∷ bs) is, begins, next)

any-of : (kind : Piece → Bool) (ps qs : List Piece) → ps ≡ qs → list_any kind ps ≡ true → list_any kind qs ≡ true
any-of kind ps qs same found = subst (λ (l : List Piece). list_any kind l ≡ true) same found

-- a mark for all names is a `*` that stands alone
all-stands : (start : Bool) (more : ℕ) (bs : List ℕ) → list_any is_all_names (pieces_from start more bs) ≡ true → StandsAlone start 42 bs
all-stands start more [] found = absurd (cc)
all-stands start (suc more) (b ∷ bs) found = further start 42 b bs (all-stands false more bs found)
all-stands start zero (b ∷ bs) found = elim (head start b bs) [
  | Star is begins next e ↦ here start 42 b bs is begins next
  | Question is begins next e ↦ further start 42 b bs (all-stands false 0 bs (any-of is_all_names (pieces_from start 0 (b ∷ bs)) (OneName ∷ pieces_from false 0 bs) e found))
  | Ticks rest is follow e ↦ further start 42 b bs (all-stands false 2 bs (any-of is_all_names (pieces_from start 0 (b ∷ bs)) (OneName ∷ pieces_from false 2 bs) e found))
  | Stays e ↦ past_byte start 42 b bs (all-stands (is_blank b) 0 bs (any-of is_all_names (pieces_from start 0 (b ∷ bs)) (Byte b ∷ pieces_from (is_blank b) 0 bs) e found))
]

-- a mark for one name is a `?` that stands alone or in backquotes
deeper : (b : ℕ) (bs : List ℕ) → StandsInBackquotes bs → StandsInBackquotes (b ∷ bs)
deeper b bs (before, after, is) = (b ∷ before, after, ap (λ l. b ∷ l) is)

one-further : (start : Bool) (b : ℕ) (bs : List ℕ) → StandsAlone false 63 bs ⊎ StandsInBackquotes bs → StandsAlone start 63 (b ∷ bs) ⊎ StandsInBackquotes (b ∷ bs)
one-further start b bs (inl alone) = inl (further start 63 b bs alone)
one-further start b bs (inr quoted) = inr (deeper b bs quoted)

one-past : (start : Bool) (b : ℕ) (bs : List ℕ) → StandsAlone (is_blank b) 63 bs ⊎ StandsInBackquotes bs → StandsAlone start 63 (b ∷ bs) ⊎ StandsInBackquotes (b ∷ bs)
one-past start b bs (inl alone) = inl (past_byte start 63 b bs alone)
one-past start b bs (inr quoted) = inr (deeper b bs quoted)

one-stands : (start : Bool) (more : ℕ) (bs : List ℕ) → list_any is_one_name (pieces_from start more bs) ≡ true → StandsAlone start 63 bs ⊎ StandsInBackquotes bs
one-stands start more [] found = absurd (cc)
one-stands start (suc more) (b ∷ bs) found = one-further start b bs (one-stands false more bs found)
one-stands start zero (b ∷ bs) found = elim (head start b bs) [
  | Star is begins next e ↦ one-further start b bs (one-stands false 0 bs (any-of is_one_name (pieces_from start 0 (b ∷ bs)) (AllNames ∷ pieces_from false 0 bs) e found))
  | Question is begins next e ↦ inl (here start 63 b bs is begins next)
  | Ticks rest is follow e ↦ inr ([], rest, rw (is, follow) refl)
  | Stays e ↦ one-past start b bs (one-stands (is_blank b) 0 bs (any-of is_one_name (pieces_from start 0 (b ∷ bs)) (Byte b ∷ pieces_from (is_blank b) 0 bs) e found))
]

-- behind a byte of a mark no whitespace is told
pub no_blank : (b mark : ℕ) (bs : List ℕ) → b ≡ mark → is_blank mark ≡ false → is_blank_last (is_blank b) bs ≡ true → is_blank_last false bs ≡ true
no_blank b mark bs is other last = subst (λ (x : Bool). is_blank_last x bs ≡ true) (ap is_blank is ∙ other) last

-- a byte that stands alone makes its mark
pub star-first : (start : Bool) (after : List ℕ) → start ≡ true → is_blank_next after ≡ true → pieces_from start 0 (42 ∷ after) ≡ AllNames ∷ pieces_from false 0 after
star-first start after begins next = rw (begins, next) refl

pub question-first : (start : Bool) (after : List ℕ) → start ≡ true → is_blank_next after ≡ true → pieces_from start 0 (63 ∷ after) ≡ OneName ∷ pieces_from false 0 after
question-first start after begins next = rw (begins, next) refl

ticks-first : (start : Bool) (after : List ℕ) → pieces_from start 0 (96 ∷ 63 ∷ 96 ∷ after) ≡ OneName ∷ pieces_from false 2 (63 ∷ 96 ∷ after)
ticks-first true after = refl
ticks-first false after = refl

or_parts : (a b : Bool) → (a || b) ≡ false → (a ≡ false) × (b ≡ false)
or_parts true b e = absurd (cc)
or_parts false b e = (refl, e)

all-found : (start : Bool) (more : ℕ) (before after : List ℕ) → (more ≡ 0) ⊎ (start ≡ false) → list_any is_blank (take more (before ++ 42 ∷ after)) ≡ false → is_blank_last start before ≡ true → is_blank_next after ≡ true → list_any is_all_names (pieces_from start more (before ++ 42 ∷ after)) ≡ true
all-found start zero [] after free none last next = rw (star-first start after last next) refl
all-found start (suc more) [] after (inl e) none last next = absurd (omega arith)
all-found start (suc more) [] after (inr e) none last next = absurd (let no : false ≡ true = sym e ∙ last in cc)
all-found start (suc more) (b ∷ before) after free none last next =
    let parts = or_parts (is_blank b) (list_any is_blank (take more (before ++ 42 ∷ after))) none in
    all-found false more before after (inr refl) parts.1 (subst (λ (x : Bool). is_blank_last x before ≡ true) parts.0 last) next
all-found start zero (b ∷ before) after free none last next =
    let bs = before ++ 42 ∷ after in
    elim (head start b bs) [
      | Star is begins next_is e ↦ any-of is_all_names (AllNames ∷ pieces_from false 0 bs) (pieces_from start 0 (b ∷ bs)) (sym e) refl
      | Question is begins next_is e ↦ any-of is_all_names (OneName ∷ pieces_from false 0 bs) (pieces_from start 0 (b ∷ bs)) (sym e) (all-found false 0 before after (inl refl) refl (no_blank b 63 before is refl last) next)
      | Ticks rest is follow e ↦
          let none_in : list_any is_blank (take 2 bs) ≡ false = ap (λ l. list_any is_blank (take 2 l)) follow in
          any-of is_all_names (OneName ∷ pieces_from false 2 bs) (pieces_from start 0 (b ∷ bs)) (sym e) (all-found false 2 before after (inr refl) none_in (no_blank b 96 before is refl last) next)
      | Stays e ↦ any-of is_all_names (Byte b ∷ pieces_from (is_blank b) 0 bs) (pieces_from start 0 (b ∷ bs)) (sym e) (all-found (is_blank b) 0 before after (inl refl) refl last next)
    ]

one-alone : (start : Bool) (before after : List ℕ) → is_blank_last start before ≡ true → is_blank_next after ≡ true → list_any is_one_name (pieces_from start 0 (before ++ 63 ∷ after)) ≡ true
one-alone start [] after last next = rw (question-first start after last next) refl
one-alone start (b ∷ before) after last next =
    let bs = before ++ 63 ∷ after in
    elim (head start b bs) [
      | Star is begins next_is e ↦ any-of is_one_name (AllNames ∷ pieces_from false 0 bs) (pieces_from start 0 (b ∷ bs)) (sym e) (one-alone false before after (no_blank b 42 before is refl last) next)
      | Question is begins next_is e ↦ any-of is_one_name (OneName ∷ pieces_from false 0 bs) (pieces_from start 0 (b ∷ bs)) (sym e) refl
      | Ticks rest is follow e ↦ any-of is_one_name (OneName ∷ pieces_from false 2 bs) (pieces_from start 0 (b ∷ bs)) (sym e) refl
      | Stays e ↦ any-of is_one_name (Byte b ∷ pieces_from (is_blank b) 0 bs) (pieces_from start 0 (b ∷ bs)) (sym e) (one-alone (is_blank b) before after last next)
    ]

one-quoted : (start : Bool) (before after : List ℕ) → list_any is_one_name (pieces_from start 0 (before ++ (codes "`?`" ++ after))) ≡ true
one-quoted start [] after = rw (ticks-first start after) refl
one-quoted start (b ∷ before) after =
    let bs = before ++ (codes "`?`" ++ after) in
    elim (head start b bs) [
      | Star is begins next_is e ↦ any-of is_one_name (AllNames ∷ pieces_from false 0 bs) (pieces_from start 0 (b ∷ bs)) (sym e) (one-quoted false before after)
      | Question is begins next_is e ↦ any-of is_one_name (OneName ∷ pieces_from false 0 bs) (pieces_from start 0 (b ∷ bs)) (sym e) refl
      | Ticks rest is follow e ↦ any-of is_one_name (OneName ∷ pieces_from false 2 bs) (pieces_from start 0 (b ∷ bs)) (sym e) refl
      | Stays e ↦ any-of is_one_name (Byte b ∷ pieces_from (is_blank b) 0 bs) (pieces_from start 0 (b ∷ bs)) (sym e) (one-quoted (is_blank b) before after)
    ]

-- a text has a mark for all names exactly where a `*` stands alone
pub all-marks : (text : List ℕ) → (list_any is_all_names (pieces text) ≡ true) ↔ StandsAlone true 42 text
all-marks text = (all-stands true 0 text, λ (before, after, is, last, next). subst (λ (t : List ℕ). list_any is_all_names (pieces t) ≡ true) (sym is) (all-found true 0 before after (inl refl) refl last next))

one-from : (text : List ℕ) → StandsAlone true 63 text ⊎ StandsInBackquotes text → list_any is_one_name (pieces text) ≡ true
one-from text (inl (before, after, is, last, next)) = subst (λ (t : List ℕ). list_any is_one_name (pieces t) ≡ true) (sym is) (one-alone true before after last next)
one-from text (inr (before, after, is)) = subst (λ (t : List ℕ). list_any is_one_name (pieces t) ≡ true) (sym is) (one-quoted true before after)

-- and a mark for one name exactly where a `?` stands alone or in backquotes
pub one-marks : (text : List ℕ) → (list_any is_one_name (pieces text) ≡ true) ↔ (StandsAlone true 63 text ⊎ StandsInBackquotes text)
one-marks text = (one-stands true 0 text, one-from text)
