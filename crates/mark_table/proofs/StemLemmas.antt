-- Texts of paths: what tells their names apart.
use Rattle.std.proofs.Common.{◌≡◌, ℕ, ◌<◌, ◌≤◌, ◌^◌, ◌==◌, true, false, not, List, [], ◌∷◌, ◌++◌, refl, sym, ◌∙◌, ap, append_assoc, Some}
use Rattle.std.specs.List.{list_all}
use Rattle.std.proofs.lemmas.List.{append-nil, same_from_push}
use Rattle.std.proofs.lemmas.Bool.Decides.{Decides-eqb}
use Rattle.dired_text.specs.Paths.{Names, slash, slashed, joined}
use Rattle.mark_table.specs.Versions.{version_in, version_text, has_no_slash}
use Rattle.mark_table.proofs.NumberLemmas.{and_both}
use Rattle.mark_table.proofs.TextLemmas.{written}

slashed_last : (p : Names) (x t : List ℕ) → slashed (p ++ (x ++ t) ∷ []) ≡ slashed (p ++ x ∷ []) ++ t
slashed_last [] x t = ap (λ (l : List ℕ). slash ∷ l) (append-nil (x ++ t) ∙ ap (λ (l : List ℕ). l ++ t) (sym (append-nil x)))
slashed_last (n ∷ p) x t = ap (λ (l : List ℕ). slash ∷ (n ++ l)) (slashed_last p x t) ∙ ap (λ (l : List ℕ). slash ∷ l) (sym (append_assoc n (slashed (p ++ x ∷ [])) t))

pub joined_last : (d : Names) (x t : List ℕ) → joined (d ++ (x ++ t) ∷ []) ≡ joined (d ++ x ∷ []) ++ t
joined_last [] x t = append-nil (x ++ t) ∙ ap (λ (l : List ℕ). l ++ t) (sym (append-nil x))
joined_last (n ∷ p) x t = ap (λ (l : List ℕ). n ++ l) (slashed_last p x t) ∙ sym (append_assoc n (slashed (p ++ x ∷ [])) t)

pub stem_is : (d : Names) (base : List ℕ) (n : ℕ) → 1 ≤ n → n < 10 ^ 18 → version_in (joined (d ++ (base ++ version_text n) ∷ [])) ≡ Some (joined (d ++ base ∷ []), n)
stem_is d base n low high = ap version_in (joined_last d base (version_text n)) ∙ written (joined (d ++ base ∷ [])) n low high

no_slash_first : (b : ℕ) (bs : List ℕ) → has_no_slash (b ∷ bs) ≡ true → slash ≡ b → ⊥
no_slash_first b bs h e =
    let test = (and_both (not (b == slash)) (has_no_slash bs) h).0 in
    let is : (b == slash) ≡ true = (Decides-eqb b slash).1 (sym e) in
    let clash : false ≡ true = sym (ap not is) ∙ test in cc

heads : (a b : ℕ) (x y : List ℕ) → a ∷ x ≡ b ∷ y → (a ≡ b) × (x ≡ y)
heads a b x y e = (cc, cc)

-- texts that are split at their first slash
first_name : (p q : Names) → (slashed p ≡ slashed q → p ≡ q) → (x y : List ℕ) → has_no_slash x ≡ true → has_no_slash y ≡ true → x ++ slashed p ≡ y ++ slashed q → (x ≡ y) × (p ≡ q)
first_name p q rest [] [] hx hy e = (refl, rest e)
first_name [] q rest [] (b ∷ y) hx hy e = cc
first_name (m ∷ p) q rest [] (b ∷ y) hx hy e = absurd (no_slash_first b y hy (heads slash b _ _ e).0)
first_name p [] rest (a ∷ x) [] hx hy e = cc
first_name p (n ∷ q) rest (a ∷ x) [] hx hy e = absurd (no_slash_first a x hx (sym (heads a slash _ _ e).0))
first_name p q rest (a ∷ x) (b ∷ y) hx hy e =
    let split = heads a b (x ++ slashed p) (y ++ slashed q) e in
    let more = first_name p q rest x y (and_both (not (a == slash)) (has_no_slash x) hx).1 (and_both (not (b == slash)) (has_no_slash y) hy).1 split.1 in
    let tails = more.0 in
    (ap (λ (c : ℕ). c ∷ x) split.0 ∙ ap (λ (l : List ℕ). b ∷ l) tails, more.1)

slashed_exact : (p q : Names) → list_all has_no_slash p ≡ true → list_all has_no_slash q ≡ true → slashed p ≡ slashed q → p ≡ q
slashed_exact [] [] hp hq e = refl
slashed_exact [] (n ∷ q) hp hq e = cc
slashed_exact (m ∷ p) [] hp hq e = cc
slashed_exact (m ∷ p) (n ∷ q) hp hq e =
    let ps = and_both (has_no_slash m) (list_all has_no_slash p) hp in
    let qs = and_both (has_no_slash n) (list_all has_no_slash q) hq in
    let both = first_name p q (slashed_exact p q ps.1 qs.1) m n ps.0 qs.0 (heads slash slash _ _ e).1 in
    ap (λ (l : List ℕ). l ∷ p) both.0 ∙ ap (λ (l : Names). n ∷ l) both.1

-- of paths that aren't the root
joined_exact : (m n : List ℕ) (p q : Names) → list_all has_no_slash (m ∷ p) ≡ true → list_all has_no_slash (n ∷ q) ≡ true → joined (m ∷ p) ≡ joined (n ∷ q) → (m ≡ n) × (p ≡ q)
joined_exact m n p q hp hq e =
    let ps = and_both (has_no_slash m) (list_all has_no_slash p) hp in
    let qs = and_both (has_no_slash n) (list_all has_no_slash q) hq in
    first_name p q (slashed_exact p q ps.1 qs.1) m n ps.0 qs.0 e

cons_append : (d : Names) (b : List ℕ) (e : Names) (c : List ℕ) → d ++ b ∷ [] ≡ e ++ c ∷ [] → (d ≡ e) × (b ≡ c)
cons_append d b e c h = same_from_push d e b c h

pub stem_exact : (d e : Names) (b c : List ℕ) → list_all has_no_slash (d ++ b ∷ []) ≡ true → list_all has_no_slash (e ++ c ∷ []) ≡ true → joined (d ++ b ∷ []) ≡ joined (e ++ c ∷ []) → (d ≡ e) × (b ≡ c)
stem_exact d e b c hd he same = cons_append d b e c (whole d b e c hd he same)
  where
    whole : (d : Names) (b : List ℕ) (e : Names) (c : List ℕ) → list_all has_no_slash (d ++ b ∷ []) ≡ true → list_all has_no_slash (e ++ c ∷ []) ≡ true → joined (d ++ b ∷ []) ≡ joined (e ++ c ∷ []) → d ++ b ∷ [] ≡ e ++ c ∷ []
    whole [] b [] c hd he same = let r = joined_exact b c [] [] hd he same in ap (λ (l : List ℕ). l ∷ []) r.0
    whole [] b (n ∷ e) c hd he same = let r = joined_exact b n [] (e ++ c ∷ []) hd he same in ap (λ (l : List ℕ). l ∷ []) r.0 ∙ ap (λ (q : Names). n ∷ q) r.1
    whole (m ∷ d) b [] c hd he same = let r = joined_exact m c (d ++ b ∷ []) [] hd he same in ap (λ (l : List ℕ). l ∷ (d ++ b ∷ [])) r.0 ∙ ap (λ (q : Names). c ∷ q) r.1
    whole (m ∷ d) b (n ∷ e) c hd he same = let r = joined_exact m n (d ++ b ∷ []) (e ++ c ∷ []) hd he same in ap (λ (l : List ℕ). l ∷ (d ++ b ∷ [])) r.0 ∙ ap (λ (q : Names). n ∷ q) r.1
