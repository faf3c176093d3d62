-- Each field of a line is read from its text, and its text is what it was read from.
use Rattle.std.proofs.Common.{◌≡◌, inl, inr, ℕ, zero, suc, ◌^◌, ◌<◌, ◌≤◌, true, false, not, ◌&&◌, ◌==◌, nat_le, List, [], ◌∷◌, ◌++◌, length, take, drop, get_or, refl, sym, ◌∙◌, ap, subst, arith, Option, Some, None, ℤ, decimal, option_map}
use Rattle.std.proofs.Math.Seq.{take-append_seam, drop-append_seam}
use Rattle.std.proofs.lemmas.Bool.{cases_Bool, and_parts, ne_eqb, eqb-true, leb-true, le-leb}
use Rattle.std.proofs.lemmas.Fmt.{decimal_is_IsNumeral, first_decimal, decimal_nonempty, digits_value-decimal, decimal-digits_value, decimal_digit}
use Rattle.std.proofs.lemmas.List.{take-append-drop}
use Rattle.std.proofs.lemmas.Option.{option_and_then_some, same_Some, cond_some}
use Rattle.std.proofs.lemmas.Str.Parse.{digit_from_value, numerals_by_value, tells_digits}
use Rattle.std.specs.List.{list_all}
use Rattle.std.specs.Str.Parse.{AllDigits, digits_value}
use Rattle.dired_text.specs.Modes.{mode_letters, read_letters}
use Rattle.dired_text.proofs.ModeLemmas.{text_of_mode, mode_of_text}
use Rattle.tree_core.specs.declared.node.Kind.{Kind}
use Rattle.tree_core.specs.declared.node.Kind.TheVariants.{File, Dir, Link}
use Rattle.listing_text.specs.Dates.{minute_of, minute_text, shown_minute}
use Rattle.listing_text.specs.Fields.{run_len, is_space, mark_in, kind_in, mode_in, number_in, word_in, word_len, date_in, is_word, is_word_byte}
use Rattle.listing_text.specs.Grammar.{IsModeOf}
use Rattle.listing_text.specs.Listed.{kind_letter, is_link}
use Rattle.listing_text.specs.Numbers.{is_digit, is_decimal, number_of}
use Rattle.listing_text.proofs.MomentLemmas.{minute_of-text, minute_of-from, minute_text-length}
use Rattle.listing_text.proofs.NumberLemmas.{number_of-small, decimal-digits, digits-all}
use Rattle.listing_text.proofs.RunLemmas.{Stops, prefix-append, taken-run, behind-run}

-- the mark
pub mark-is : (mark : ℕ) (rest : List ℕ) → 32 ≤ mark → mark ≤ 126 → mark_in (mark ∷ rest) ≡ Some (mark, rest)
unfolding mark_in
mark-is mark rest low high = rw (le-leb 32 mark low, le-leb mark 126 high) refl

pub mark-from : (text : List ℕ) (v : ℕ × List ℕ) → mark_in text ≡ Some v → (text ≡ v.0 ∷ v.1) × (32 ≤ v.0) × (v.0 ≤ 126)
unfolding mark_in
mark-from [] v e = cc
mark-from (b ∷ rest) v e =
    let is = cond_some (nat_le 32 b && nat_le b 126) (b, rest) v e in
    let parts = and_parts (nat_le 32 b) (nat_le b 126) is.0 in
    let Mark : ℕ × List ℕ → Type 0 = λ x. ((b ∷ rest) ≡ x.0 ∷ x.1) × (32 ≤ x.0) × (x.0 ≤ 126) in
    subst Mark is.1 (refl, leb-true 32 b parts.0, leb-true b 126 parts.1)

-- the kind
pub kind-is : (kind : Kind) (rest : List ℕ) → kind_in (kind_letter kind ∷ rest) ≡ Some (kind, rest)
unfolding kind_in
kind-is File rest = refl
kind-is Dir rest = refl
kind-is Link rest = refl

kind-found : (b : ℕ) (rest : List ℕ) (kind : Kind) (v : Kind × List ℕ) → b ≡ kind_letter kind → Some (kind, rest) ≡ Some v → (b ∷ rest) ≡ kind_letter v.0 ∷ v.1
kind-found b rest kind v same e = ap (λ x. x ∷ rest) same ∙ ap (λ (x : Kind × List ℕ). kind_letter x.0 ∷ x.1) (same_Some (kind, rest) v e)

pub kind-from : (text : List ℕ) (v : Kind × List ℕ) → kind_in text ≡ Some v → text ≡ kind_letter v.0 ∷ v.1
unfolding kind_in
kind-from [] v e = cc
kind-from (b ∷ rest) v e = elim (cases_Bool (b == 45)) [
  | inl is ↦ let got = rw is at e in kind-found b rest File v (eqb-true b 45 is) got
  | inr not_file ↦ elim (cases_Bool (b == 100)) [
    | inl is ↦ let got = rw (not_file, is) at e in kind-found b rest Dir v (eqb-true b 100 is) got
    | inr not_dir ↦ elim (cases_Bool (b == 108)) [
      | inl is ↦ let got = rw (not_file, not_dir, is) at e in kind-found b rest Link v (eqb-true b 108 is) got
      | inr other ↦ let none : None ≡ Some v = rw (not_file, not_dir, other) at e in cc
    ]
  ]
]

-- the mode
pub mode-is : (kind : Kind) (mode : ℕ) (rest : List ℕ) → IsModeOf kind mode → mode_in kind (mode_letters mode ++ rest) ≡ Some (mode, rest)
unfolding mode_in
mode-is File mode rest bound = rw (text_of_mode mode bound) refl
mode-is Dir mode rest bound = rw (text_of_mode mode bound) refl
mode-is Link mode rest is = rw (text_of_mode mode (omega arith), is) refl

mode-lawful : (kind : Kind) (mode : ℕ) → mode ≤ 0o7777 → (is_link kind && not (mode == 0o777)) ≡ false → IsModeOf kind mode
mode-lawful File mode bound e = bound
mode-lawful Dir mode bound e = bound
mode-lawful Link mode bound e = elim (cases_Bool (mode == 0o777)) [
  | inl is ↦ eqb-true mode 0o777 is
  | inr other ↦ let no : true ≡ false = rw other at e in cc
]

pub mode-from : (kind : Kind) (text : List ℕ) (v : ℕ × List ℕ) → mode_in kind text ≡ Some v → (text ≡ mode_letters v.0 ++ v.1) × IsModeOf kind v.0
unfolding mode_in
mode-from kind text v e = option_and_then_some _ (read_letters (take 9 text)) v e (λ mode is_mode r.
    let letters = mode_of_text (take 9 text) mode is_mode in
    elim (cases_Bool (is_link kind && not (mode == 0o777))) [
      | inl bad ↦ let none : None ≡ Some v = rw bad at r in cc
      | inr good ↦ let got : Some (mode, drop 9 text) ≡ Some v = rw good at r in
          let Mode : ℕ × List ℕ → Type 0 = λ x. (text ≡ mode_letters x.0 ++ x.1) × IsModeOf kind x.0 in
          subst Mode (same_Some (mode, drop 9 text) v got) (sym (take-append-drop 9 text) ∙ ap (λ t. t ++ drop 9 text) (sym letters.1), mode-lawful kind mode letters.0 good)
    ])

-- numbers
digits-from : (ds : List ℕ) → AllDigits 10 ds → list_all is_digit ds ≡ true
digits-from [] all = refl
digits-from (d ∷ ds) all =
    let range = digit_from_value d all.0 in
    rw (le-leb 48 d range.0, le-leb d 57 range.1) (digits-from ds all.1)

pub decimal-all : (n : ℕ) → n < 2 ^ 64 → list_all is_digit (decimal n) ≡ true
decimal-all n small = digits-from (decimal n) (decimal_is_IsNumeral n small).0.1

decimal-from-parts : (ds : List ℕ) → list_all is_digit ds ≡ true → 0 < length ds → (get_or ds 0 0 ≡ 48 → length ds ≡ 1) → is_decimal ds ≡ true
decimal-from-parts [] all some alone = absurd (omega arith)
decimal-from-parts (d ∷ ds) all some alone = elim (cases_Bool (d == 48)) [
  | inl is ↦ let one : suc (length ds) ≡ 1 = alone (eqb-true d 48 is) in let none : length ds ≡ 0 = omega arith in rw (all, is, none) refl
  | inr other ↦ rw (all, other) refl
]

decimal-alone : (n : ℕ) → n < 2 ^ 64 → get_or (decimal n) 0 0 ≡ 48 → length (decimal n) ≡ 1
decimal-alone zero small zero_first = ap length (decimal_digit 0 (omega arith))
decimal-alone (suc n) small zero_first = absurd (omega (arith, first_decimal (suc n) (omega arith) small))

number-value : (n : ℕ) → n < 2 ^ 64 → digits_value 10 (decimal n) ≡ n
number-value n small = digits_value-decimal (numerals_by_value (AllDigits 10) tells_digits) n small

number_of-decimal : (most n : ℕ) → n ≤ most → n < 2 ^ 64 → number_of most (decimal n) ≡ Some n
number_of-decimal most n low small =
    number_of-small most (decimal n) (decimal-from-parts (decimal n) (decimal-all n small) (decimal_nonempty n small) (decimal-alone n small)) (omega (arith, number-value n small))
    ∙ ap Some (number-value n small)

pub number-is : (most n : ℕ) (rest : List ℕ) → n ≤ most → n < 2 ^ 64 → Stops is_digit rest → number_in most (decimal n ++ rest) ≡ Some (n, rest)
unfolding number_in
number-is most n rest low small stops =
    rw (taken-run is_digit (decimal n) rest (decimal-all n small) stops, behind-run is_digit (decimal n) rest (decimal-all n small) stops, number_of-decimal most n low small) refl

number_of-from : (most : ℕ) (text : List ℕ) (n : ℕ) → number_of most text ≡ Some n → (is_decimal text ≡ true) × (digits_value 10 text ≡ n) × (n ≤ most)
unfolding number_of
number_of-from most text n e =
    let is = cond_some (is_decimal text && nat_le (digits_value 10 text) most) (digits_value 10 text) n e in
    let parts = and_parts (is_decimal text) (nat_le (digits_value 10 text) most) is.0 in
    (parts.0, is.1, subst (λ m. m ≤ most) is.1 (leb-true (digits_value 10 text) most parts.1))

number-text : (most : ℕ) (text : List ℕ) (n : ℕ) → most < 2 ^ 64 → number_of most text ≡ Some n → (text ≡ decimal n) × (n ≤ most)
number-text most text n small e =
    let is = number_of-from most text n e in
    let parts = decimal-digits text is.0 in
    let value : digits_value 10 text < 2 ^ 64 = omega (arith, is.1, is.2) in
    let same = decimal-digits_value (numerals_by_value (AllDigits 10) tells_digits) text (digits-all text parts.0) parts.1 parts.2 value in
    (sym same ∙ ap decimal is.1, is.2)

pub map-some : {A B : Type 0} (f : A → B) (o : Option A) (v : B) → option_map f o ≡ Some v → (a : A) × (o ≡ Some a) × (f a ≡ v)
map-some f None v e = cc
map-some f (Some a) v e = (a, refl, same_Some (f a) v e)

pub number-from : (most : ℕ) (text : List ℕ) (v : ℕ × List ℕ) → most < 2 ^ 64 → number_in most text ≡ Some v → (text ≡ decimal v.0 ++ v.1) × (v.0 ≤ most)
unfolding number_in
number-from most text v small e =
    let len = run_len is_digit text in
    let got = map-some (λ n. (n, drop len text)) (number_of most (take len text)) v e in
    let is = number-text most (take len text) got.0 small got.1 in
    let Number : ℕ × List ℕ → Type 0 = λ x. (text ≡ decimal x.0 ++ x.1) × (x.0 ≤ most) in
    subst Number got.2 (sym (take-append-drop len text) ∙ ap (λ t. t ++ drop len text) is.0, is.1)

-- owner and group
no-space : (w : List ℕ) → list_all is_word_byte w ≡ true → list_all (λ b. not (is_space b)) w ≡ true
no-space [] all = refl
no-space (b ∷ w) all =
    let parts = and_parts (is_word_byte b) (list_all is_word_byte w) all in
    let low : 33 ≤ b = leb-true 33 b (and_parts (nat_le 33 b) (nat_le b 126) parts.0).0 in
    rw (ne_eqb b 32 (λ e. let same : b ≡ 32 = e in omega arith)) (no-space w parts.1)

pub word-bytes : (w : List ℕ) → is_word w ≡ true → list_all is_word_byte w ≡ true
word-bytes w is = (and_parts (nat_le 1 (length w) && nat_le (length w) 64) (list_all is_word_byte w) is).1

pub word-some : (w : List ℕ) → is_word w ≡ true → 1 ≤ length w
word-some w is = leb-true 1 (length w) (and_parts (nat_le 1 (length w)) (nat_le (length w) 64) (and_parts (nat_le 1 (length w) && nat_le (length w) 64) (list_all is_word_byte w) is).0).0

pub word-is : (w rest : List ℕ) → is_word w ≡ true → Stops (λ b. not (is_space b)) rest → word_in (w ++ rest) ≡ Some (w, rest)
unfolding word_in
word-is w rest is stops =
    let len : word_len (w ++ rest) ≡ length w = prefix-append (λ b. not (is_space b)) (λ b. not (is_space b)) (λ b. refl) w rest (no-space w (word-bytes w is)) stops in
    let front : take (word_len (w ++ rest)) (w ++ rest) ≡ w = ap (λ n. take n (w ++ rest)) len ∙ take-append_seam w rest in
    let back : drop (word_len (w ++ rest)) (w ++ rest) ≡ rest = ap (λ n. drop n (w ++ rest)) len ∙ drop-append_seam w rest in
    rw (front, back, is) refl

pub word-from : (text : List ℕ) (v : List ℕ × List ℕ) → word_in text ≡ Some v → (text ≡ v.0 ++ v.1) × (is_word v.0 ≡ true)
unfolding word_in
word-from text v e =
    let len = word_len text in
    let is = cond_some (is_word (take len text)) (take len text, drop len text) v e in
    let Word : List ℕ × List ℕ → Type 0 = λ x. (text ≡ x.0 ++ x.1) × (is_word x.0 ≡ true) in
    subst Word is.1 (sym (take-append-drop len text), is.0)

-- the date
pub date-is : (minute : ℤ) (rest : List ℕ) → date_in (minute_text minute ++ rest) ≡ Some (shown_minute minute, rest)
unfolding date_in
date-is minute rest =
    let front : take 16 (minute_text minute ++ rest) ≡ minute_text minute = ap (λ n. take n (minute_text minute ++ rest)) (sym (minute_text-length minute)) ∙ take-append_seam (minute_text minute) rest in
    let back : drop 16 (minute_text minute ++ rest) ≡ rest = ap (λ n. drop n (minute_text minute ++ rest)) (sym (minute_text-length minute)) ∙ drop-append_seam (minute_text minute) rest in
    rw (front, back, minute_of-text minute) refl

pub date-from : (text : List ℕ) (v : ℤ × List ℕ) → date_in text ≡ Some v → (text ≡ minute_text v.0 ++ v.1) × (shown_minute v.0 ≡ v.0)
unfolding date_in
date-from text v e =
    let got = map-some (λ minute. (minute, drop 16 text)) (minute_of (take 16 text)) v e in
    let is = minute_of-from (take 16 text) got.0 got.1 in
    let Date : ℤ × List ℕ → Type 0 = λ x. (text ≡ minute_text x.0 ++ x.1) × (shown_minute x.0 ≡ x.0) in
    subst Date got.2 (sym (take-append-drop 16 text) ∙ ap (λ t. t ++ drop 16 text) is.0, is.1)
