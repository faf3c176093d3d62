-- The lines of a text, one by one.
use Rattle.std.proofs.Common.{◌≡◌, inl, inr, ℕ, suc, ◌+◌, ◌-◌, ◌<◌, ◌≤◌, Bool, ◌==◌, List, [], ◌∷◌, length, take, drop, refl, sym, ◌∙◌, ap, subst, arith, Some, None, nat_lt, length-drop}
use Rattle.std.specs.List.{position, position_or_len}
use Rattle.std.proofs.lemmas.Bool.{cases_Bool, ltb-false}
use Rattle.std.proofs.lemmas.List.{take_rest, take_all, drop_all}
use Rattle.std.proofs.lemmas.Option.{cond_some}
use Rattle.dired_text.specs.Resolve.{with_first}
use Rattle.script_words.specs.Lines.{lines}

abbrev is_newline : ℕ → Bool
is_newline b = b == 10

abbrev line_end : List ℕ → ℕ
line_end text = position_or_len is_newline text

-- one byte more in front of the first line
one_more : (b : ℕ) (bs : List ℕ) (end : ℕ) → lines bs ≡ take end bs ∷ lines (drop (end + 1) bs) → with_first b (lines bs) ≡ take (1 + end) (b ∷ bs) ∷ lines (drop (1 + end + 1) (b ∷ bs))
one_more b bs end e =
    let first : 1 + end ≡ suc end = omega arith in
    let behind : 1 + end + 1 ≡ suc (end + 1) = omega arith in
    let front : take (1 + end) (b ∷ bs) ≡ b ∷ take end bs = ap (λ n. take n (b ∷ bs)) first in
    let rest : drop (1 + end + 1) (b ∷ bs) ≡ drop (end + 1) bs = ap (λ n. drop n (b ∷ bs)) behind in
    let added : with_first b (lines bs) ≡ (b ∷ take end bs) ∷ lines (drop (end + 1) bs) = ap (with_first b) e in
    added ∙ ap (λ (t : List ℕ). t ∷ lines (drop (end + 1) bs)) (sym front) ∙ ap (λ (r : List ℕ). take (1 + end) (b ∷ bs) ∷ lines r) (sym rest)

-- the first line, and those behind its newline
pub lines-first : (b : ℕ) (bs : List ℕ) → lines (b ∷ bs) ≡ take (line_end (b ∷ bs)) (b ∷ bs) ∷ lines (drop (line_end (b ∷ bs) + 1) (b ∷ bs))
lines-first b [] = elim (cases_Bool (b == 10)) [
  | inl ends ↦ rw ends refl
  | inr other ↦ rw other refl
]
lines-first b (c ∷ cs) = elim (cases_Bool (b == 10)) [
  | inl ends ↦ rw ends refl
  | inr other ↦ rw other (one_more b (c ∷ cs) (line_end (c ∷ cs)) (lines-first c cs))
]

-- where the first newline was found
pub split_found : (text : List ℕ) (end : ℕ) → position is_newline text ≡ Some end → (lines text ≡ take end text ∷ lines (take (length text - (end + 1)) (drop (end + 1) text))) × (length (take (length text - (end + 1)) (drop (end + 1) text)) < length text)
split_found [] end e = cc
split_found (b ∷ bs) end e =
    let text = b ∷ bs in
    let found = cond_some (nat_lt (line_end text) (length text)) (line_end text) end e in
    let rest : take (length text - (end + 1)) (drop (end + 1) text) ≡ drop (end + 1) text = take_rest text (end + 1) in
    let shorter : length (drop (end + 1) text) ≡ length text - (end + 1) = length-drop (end + 1) text in
    let some : 0 < length text = omega arith in
    let step : lines text ≡ take end text ∷ lines (drop (end + 1) text) = subst (λ (n : ℕ). lines text ≡ take n text ∷ lines (drop (n + 1) text)) found.1 (lines-first b bs) in
    (step ∙ ap (λ (r : List ℕ). take end text ∷ lines r) (sym rest), omega (arith, ap length rest))

-- where no newline was found
pub split_last : (text : List ℕ) → position is_newline text ≡ None → 0 < length text → lines text ≡ text ∷ []
split_last [] e some = absurd (omega arith)
split_last (b ∷ bs) e some =
    let text = b ∷ bs in
    elim (cases_Bool (nat_lt (line_end text) (length text))) [
      | inl within ↦ let no : Some (line_end text) ≡ None = rw within at e in cc
      | inr past ↦
          let end : length text ≤ line_end text = ltb-false (line_end text) (length text) past in
          lines-first b bs ∙ ap (λ (t : List ℕ). t ∷ lines (drop (line_end text + 1) text)) (take_all (line_end text) text end)
          ∙ ap (λ (r : List ℕ). text ∷ lines r) (drop_all (line_end text + 1) text (omega arith))
    ]
