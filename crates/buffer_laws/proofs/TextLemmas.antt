-- Texts and their lines.
use Rattle.std.proofs.Common.{◌≡◌, ◌≢◌, ◌⊎◌, inl, inr, ℕ, zero, suc, ◌+◌, ◌≤◌, Bool, true, false, ◌==◌, List, [], ◌∷◌, ◌++◌, length, flat_map, All, refl, sym, ◌∙◌, ap, subst, arith, append_assoc}
use Rattle.std.proofs.lemmas.Bool.{cases_Bool, ne_eqb, eqb-true, eqb-false}
use Rattle.std.proofs.lemmas.List.{append_cancel_right, append-nil}
use Rattle.std.proofs.lemmas.List.Elements.{All-nil, All-cons, All-head, All-tail}
use Rattle.dired_text.specs.Resolve.{with_first}
use Rattle.wdired_buffer.specs.Lines.{lines}
use Rattle.buffer_laws.specs.Buffers.{OnOneLine, ended}

first : (b : ℕ) (bs : List ℕ) → OnOneLine (b ∷ bs) → b ≢ 10
first b bs h = All-head (λ b. b ≢ 10) b bs h

later : (b : ℕ) (bs : List ℕ) → OnOneLine (b ∷ bs) → OnOneLine bs
later b bs h = All-tail (λ b. b ≢ 10) b bs h

lines-split : (text rest : List ℕ) → OnOneLine text → lines (text ++ 10 ∷ rest) ≡ text ∷ lines rest
lines-split [] rest h = refl
lines-split (b ∷ bs) rest h = rw (ne_eqb b 10 (first b bs h)) (ap (with_first b) (lines-split bs rest (later b bs h)))

-- a last line without a newline
lines-alone : (b : ℕ) (bs : List ℕ) → OnOneLine (b ∷ bs) → lines (b ∷ bs) ≡ (b ∷ bs) ∷ []
lines-alone b [] h = rw (ne_eqb b 10 (first b [] h)) refl
lines-alone b (c ∷ cs) h = rw (ne_eqb b 10 (first b (c ∷ cs) h)) (ap (with_first b) (lines-alone c cs (later b (c ∷ cs) h)))

-- texts with a newline between two
joined : List (List ℕ) → List ℕ
joined [] = []
joined (t ∷ []) = t
joined (t ∷ u ∷ ts) = t ++ 10 ∷ joined (u ∷ ts)

-- the last of these isn't empty
abbrev pub EndsFull : List (List ℕ) → Type 0
EndsFull [] = ⊥
EndsFull ([] ∷ []) = ⊥
EndsFull ((b ∷ bs) ∷ []) = Unit {0}
EndsFull (t ∷ u ∷ ts) = EndsFull (u ∷ ts)

pub full-append : (ts : List (List ℕ)) (u : List ℕ) (us : List (List ℕ)) → EndsFull (u ∷ us) → EndsFull (ts ++ u ∷ us)
full-append [] u us full = full
full-append (t ∷ []) u us full = full
full-append (t ∷ v ∷ ts) u us full = full-append (v ∷ ts) u us full

ended-joined : (t : List ℕ) (ts : List (List ℕ)) → ended (t ∷ ts) ≡ joined (t ∷ ts) ++ 10 ∷ []
unfolding joined
ended-joined t [] = append-nil (t ++ 10 ∷ [])
ended-joined t (u ∷ ts) = append_assoc t (10 ∷ []) (ended (u ∷ ts)) ∙ ap (λ (r : List ℕ). t ++ 10 ∷ r) (ended-joined u ts) ∙ sym (append_assoc t (10 ∷ joined (u ∷ ts)) (10 ∷ []))

lines-joined : (ts : List (List ℕ)) → EndsFull ts → All OnOneLine ts → lines (joined ts) ≡ ts
unfolding joined
lines-joined [] full whole = absurd full
lines-joined ([] ∷ []) full whole = absurd full
lines-joined ((b ∷ bs) ∷ []) full whole = lines-alone b bs (All-head OnOneLine (b ∷ bs) [] whole)
lines-joined (t ∷ u ∷ ts) full whole = lines-split t (joined (u ∷ ts)) (All-head OnOneLine t (u ∷ ts) whole) ∙ ap (λ (r : List (List ℕ)). t ∷ r) (lines-joined (u ∷ ts) full (All-tail OnOneLine t (u ∷ ts) whole))

lines-ended : (ts : List (List ℕ)) → All OnOneLine ts → lines (ended ts) ≡ ts
lines-ended [] whole = refl
lines-ended (t ∷ ts) whole =
    ap lines (append_assoc t (10 ∷ []) (ended ts)) ∙ lines-split t (ended ts) (All-head OnOneLine t ts whole)
    ∙ ap (λ (r : List (List ℕ)). t ∷ r) (lines-ended ts (All-tail OnOneLine t ts whole))

-- the lines of a text with these texts, where a newline may be missing behind the last
pub lines-of : (text : List ℕ) (ts : List (List ℕ)) → EndsFull ts → All OnOneLine ts → (text ≡ ended ts) ⊎ (text ++ 10 ∷ [] ≡ ended ts) → lines text ≡ ts
lines-of text [] full whole is = absurd full
lines-of text (t ∷ ts) full whole (inl is) = ap lines is ∙ lines-ended (t ∷ ts) whole
lines-of text (t ∷ ts) full whole (inr is) =
    ap lines (append_cancel_right text (joined (t ∷ ts)) (10 ∷ []) (is ∙ ended-joined t ts)) ∙ lines-joined (t ∷ ts) full whole

-- and the other way round
abbrev IsEnded : List ℕ → List (List ℕ) → Type 0
IsEnded text ts = (text ≡ ended ts) ⊎ (text ++ 10 ∷ [] ≡ ended ts)

ended-more : (b : ℕ) (bs : List ℕ) (ts : List (List ℕ)) → lines bs ≡ ts → IsEnded bs ts → IsEnded (b ∷ bs) (with_first b ts)
ended-more b [] [] is h = inr refl
ended-more b (c ∷ cs) [] is (inl e) = cc
ended-more b (c ∷ cs) [] is (inr e) = cc
ended-more b bs (t ∷ ts) is (inl e) = inl (ap (λ (r : List ℕ). b ∷ r) e)
ended-more b bs (t ∷ ts) is (inr e) = inr (ap (λ (r : List ℕ). b ∷ r) e)

ended-first : (bs : List ℕ) → IsEnded bs (lines bs) → IsEnded (10 ∷ bs) ([] ∷ lines bs)
ended-first bs (inl e) = inl (ap (λ (r : List ℕ). 10 ∷ r) e)
ended-first bs (inr e) = inr (ap (λ (r : List ℕ). 10 ∷ r) e)

pub ended-lines : (text : List ℕ) → (text ≡ ended (lines text)) ⊎ (text ++ 10 ∷ [] ≡ ended (lines text))
ended-lines [] = inl refl
ended-lines (b ∷ bs) = elim (cases_Bool (b == 10)) [
  | inl is ↦ let same : b ≡ 10 = eqb-true b 10 is in rw same (ended-first bs (ended-lines bs))
  | inr other ↦ rw other (ended-more b bs (lines bs) refl (ended-lines bs))
]

with_first-whole : (b : ℕ) (ts : List (List ℕ)) → b ≢ 10 → All OnOneLine ts → All OnOneLine (with_first b ts)
with_first-whole b [] other whole = All-cons OnOneLine (b ∷ []) [] (All-cons (λ b. b ≢ 10) b [] other (All-nil (λ b. b ≢ 10))) (All-nil OnOneLine)
with_first-whole b (t ∷ ts) other whole =
    All-cons OnOneLine (b ∷ t) ts (All-cons (λ b. b ≢ 10) b t other (All-head OnOneLine t ts whole)) (All-tail OnOneLine t ts whole)

pub lines-whole : (text : List ℕ) → All OnOneLine (lines text)
lines-whole [] = All-nil OnOneLine
lines-whole (b ∷ bs) = elim (cases_Bool (b == 10)) [
  | inl is ↦ rw is (All-cons OnOneLine [] (lines bs) (All-nil (λ b. b ≢ 10)) (lines-whole bs))
  | inr other ↦ rw other (with_first-whole b (lines bs) (eqb-false b 10 other) (lines-whole bs))
]

-- texts that are ended alike differ by the last newline at most
pub texts-alike : (text other whole : List ℕ) → (text ≡ whole) ⊎ (text ++ 10 ∷ [] ≡ whole) → (other ≡ whole) ⊎ (other ++ 10 ∷ [] ≡ whole)
    → (text ≡ other) ⊎ (text ++ 10 ∷ [] ≡ other) ⊎ (text ≡ other ++ 10 ∷ [])
texts-alike text other whole (inl a) (inl b) = inl (a ∙ sym b)
texts-alike text other whole (inl a) (inr b) = inr (inr (a ∙ sym b))
texts-alike text other whole (inr a) (inl b) = inr (inl (a ∙ sym b))
texts-alike text other whole (inr a) (inr b) = inl (append_cancel_right text other (10 ∷ []) (a ∙ sym b))
