-- The paths above a path with one name more.
use Rattle.std.proofs.Common.{◌≡◌, ◌≢◌, ◌⊎◌, inl, inr, ℕ, true, false, Bool, ◌&&◌, cond, List, [], ◌∷◌, ◌++◌, refl, sym, ◌∙◌, ap, ap₂}
use Rattle.std.proofs.lemmas.Bool.{cases_Bool, false≢true}
use Rattle.std.proofs.lemmas.Slice.Eq.{bytes_eq-Decides}
use Rattle.std.specs.Str.{bytes_eq}
use Rattle.std.specs.Ordering.{eq_by_cmp}
use Rattle.dired_text.specs.Paths.{Names, path_cmp}
use Rattle.path_map.specs.Walks.{is_above}
use Rattle.path_map.proofs.ListLemmas.{path_itself, same_path}

pub above_none : (p : Names) → is_above p [] ≡ false
above_none [] = refl
above_none (n ∷ p) = refl

above_itself : (p : Names) (n : List ℕ) → is_above p (p ++ n ∷ []) ≡ true
above_itself [] n = refl
above_itself (m ∷ p) n = rw ((bytes_eq-Decides m m).1 refl) (above_itself p n)

and_false : (a b : Bool) → b ≡ false → (a && b) ≡ false
and_false true b e = e
and_false false b e = refl

above_other : (p q : Names) (n : List ℕ) → q ≢ p → is_above p (q ++ n ∷ []) ≡ is_above p q
above_other [] [] n other = absurd (other refl)
above_other [] (y ∷ q) n other = refl
above_other (x ∷ p) [] n other = and_false (bytes_eq x n) (is_above p []) (above_none p)
above_other (x ∷ p) (y ∷ q) n other = go (λ less. above_other p q n less) (cases_Bool (bytes_eq x y))
  where
    go : (q ≢ p → is_above p (q ++ n ∷ []) ≡ is_above p q) → (bytes_eq x y ≡ true) ⊎ (bytes_eq x y ≡ false) → (bytes_eq x y && is_above p (q ++ n ∷ [])) ≡ (bytes_eq x y && is_above p q)
    go later (inl same) = ap (λ (b : Bool). bytes_eq x y && b) (later (λ e. other (ap₂ (λ (m : List ℕ) (r : Names). m ∷ r) (sym ((bytes_eq-Decides x y).0 same)) e)))
    go later (inr differs) = ap (λ (b : Bool). b && is_above p (q ++ n ∷ [])) differs ∙ sym (ap (λ (b : Bool). b && is_above p q) differs)

-- they are those above the path, and the path itself
pub above_pushed : {X : Type 0} (p q : Names) (n : List ℕ) (x y : X) → cond (eq_by_cmp path_cmp q p) x (cond (is_above p q) x y) ≡ cond (is_above p (q ++ n ∷ [])) x y
above_pushed {X} p q n x y = go (cases_Bool (eq_by_cmp path_cmp q p))
  where
    above_same : q ≡ p → is_above p (q ++ n ∷ []) ≡ true
    above_same e = ap (λ (r : Names). is_above p (r ++ n ∷ [])) e ∙ above_itself p n

    go : (eq_by_cmp path_cmp q p ≡ true) ⊎ (eq_by_cmp path_cmp q p ≡ false) → cond (eq_by_cmp path_cmp q p) x (cond (is_above p q) x y) ≡ cond (is_above p (q ++ n ∷ [])) x y
    go (inl same) = ap (λ (b : Bool). cond b x (cond (is_above p q) x y)) same ∙ sym (ap (λ (b : Bool). cond b x y) (above_same (same_path q p same)))
    go (inr differs) =
        ap (λ (b : Bool). cond b x (cond (is_above p q) x y)) differs
        ∙ sym (ap (λ (b : Bool). cond b x y) (above_other p q n (λ e. false≢true (sym differs ∙ ap (λ (r : Names). eq_by_cmp path_cmp r p) e ∙ path_itself p))))
