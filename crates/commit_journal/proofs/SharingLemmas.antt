-- First bytes that two texts have in common.
use Rattle.std.proofs.Common.{◌≡◌, ◌≢◌, ℕ, zero, suc, min, ◌+◌, ◌<◌, ◌≤◌, true, false, eqb, List, [], ◌∷◌, length, take, drop, get_or, refl, sym, ap, ◌∙◌, arith, inl, inr}
use Rattle.std.proofs.lemmas.Bool.{cases_Bool, eqb-true}
use Rattle.std.proofs.lemmas.Bool.Decides.{nat_tests}
use Rattle.std.proofs.lemmas.List.{drop_more, length-drop}
use Rattle.commit_journal.specs.Sharing.{IsShared, shared_bytes}

eq_true : (m n : ℕ) → m ≡ n → eqb m n ≡ true
eq_true m n e = grind (arith, nat_tests)

ne_false : (m n : ℕ) → m ≢ n → eqb m n ≡ false
ne_false m n h = grind (arith, nat_tests)

heads_same : (b t : ℕ) (base text : List ℕ) → b ≡ t → shared_bytes (b ∷ base) (t ∷ text) ≡ suc (shared_bytes base text)
heads_same b t base text e = rw (eq_true b t e) refl

heads_differ : (b t : ℕ) (base text : List ℕ) → b ≢ t → shared_bytes (b ∷ base) (t ∷ text) ≡ 0
heads_differ b t base text h = rw (ne_false b t h) refl

-- ---- one byte further

opened : (base text : List ℕ) (i : ℕ) → i < length base → i < length text
    → shared_bytes (drop i base) (drop i text) ≡ shared_bytes (get_or base i 0 ∷ drop (i + 1) base) (get_or text i 0 ∷ drop (i + 1) text)
opened base text i in_base in_text =
    ap (λ (l : List ℕ). shared_bytes l (drop i text)) (drop_more base i 0 in_base)
    ∙ ap (shared_bytes (get_or base i 0 ∷ drop (i + 1) base)) (drop_more text i 0 in_text)

pub shared-more : (base text : List ℕ) (i : ℕ) → i < length base → i < length text → get_or base i 0 ≡ get_or text i 0
    → shared_bytes (drop i base) (drop i text) ≡ suc (shared_bytes (drop (i + 1) base) (drop (i + 1) text))
shared-more base text i in_base in_text e =
    opened base text i in_base in_text ∙ heads_same (get_or base i 0) (get_or text i 0) (drop (i + 1) base) (drop (i + 1) text) e

pub shared-differs : (base text : List ℕ) (i : ℕ) → i < length base → i < length text → get_or base i 0 ≢ get_or text i 0
    → shared_bytes (drop i base) (drop i text) ≡ 0
shared-differs base text i in_base in_text h =
    opened base text i in_base in_text ∙ heads_differ (get_or base i 0) (get_or text i 0) (drop (i + 1) base) (drop (i + 1) text) h

shared-short : (base text : List ℕ) → min (length base) (length text) ≡ 0 → shared_bytes base text ≡ 0
shared-short [] text e = refl
shared-short (b ∷ base) [] e = refl
shared-short (b ∷ base) (t ∷ text) e = absurd (omega arith)

pub shared-end : (base text : List ℕ) (i : ℕ) → min (length base) (length text) ≤ i → shared_bytes (drop i base) (drop i text) ≡ 0
shared-end base text i past =
    shared-short (drop i base) (drop i text) (omega (arith, length-drop i base, length-drop i text))

-- ---- the greatest number

tails : (x y : ℕ) (xs ys : List ℕ) → x ∷ xs ≡ y ∷ ys → (x ≡ y) × (xs ≡ ys)
tails x y xs ys e = (cc, cc)

pub shared_is : (base text : List ℕ) → IsShared base text (shared_bytes base text)
shared_is [] text = record { in_base = omega arith; in_text = omega arith; same = refl; greatest = λ n b t e. b }
shared_is (b ∷ base) [] = record { in_base = omega arith; in_text = omega arith; same = refl; greatest = λ n b t e. t }
shared_is (b ∷ base) (t ∷ text) = elim (cases_Bool (eqb b t)) [
  | inl same ↦
      let heads : b ≡ t = eqb-true b t same in
      let behind = shared_is base text in
      rw (heads_same b t base text heads) (record {
        in_base = omega (arith, behind.in_base);
        in_text = omega (arith, behind.in_text);
        same = ap (λ (x : ℕ). x ∷ take (shared_bytes base text) base) heads ∙ ap (λ (l : List ℕ). t ∷ l) behind.same;
        greatest = further b t base text behind;
      })
  | inr other ↦
      let differ : b ≢ t = λ e. (let yes = eq_true b t e in let clash : true ≡ false = sym yes ∙ other in cc) in
      rw (heads_differ b t base text differ) (record { in_base = omega arith; in_text = omega arith; same = refl; greatest = nothing b t base text differ })
]
  where
    further : (b t : ℕ) (base text : List ℕ) → IsShared base text (shared_bytes base text) → (n : ℕ) → n ≤ suc (length base) → n ≤ suc (length text)
        → take n (b ∷ base) ≡ take n (t ∷ text) → n ≤ suc (shared_bytes base text)
    further b t base text behind zero in_base in_text e = omega arith
    further b t base text behind (suc n) in_base in_text e =
        let most = behind.greatest n (omega arith) (omega arith) (tails b t (take n base) (take n text) e).1 in omega arith

    nothing : (b t : ℕ) (base text : List ℕ) → b ≢ t → (n : ℕ) → n ≤ suc (length base) → n ≤ suc (length text)
        → take n (b ∷ base) ≡ take n (t ∷ text) → n ≤ 0
    nothing b t base text differ zero in_base in_text e = omega arith
    nothing b t base text differ (suc n) in_base in_text e = absurd (differ (tails b t (take n base) (take n text) e).0)

-- there is one such number
pub shared_one : (base text : List ℕ) (m n : ℕ) → IsShared base text m → IsShared base text n → m ≡ n
shared_one base text m n a b =
    let low = a.greatest n b.in_base b.in_text b.same in
    let high = b.greatest m a.in_base a.in_text a.same in
    omega arith
