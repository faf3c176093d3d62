-- The first names of a path.
use Rattle.std.proofs.Common.{◌≡◌, ◌≤◌, ◌<◌, ◌+◌, ℕ, zero, suc, List, [], ◌∷◌, ◌++◌, length, take, map, refl, ap, sym, ◌∙◌, arith, length-append, subst}
use Rattle.std.proofs.lemmas.List.{take-map, map-append, length-map}
use Rattle.dired_text.specs.Paths.{Names, slashed, path_bytes}
use Rattle.edit_words.specs.Place.{ancestors}

-- one name more
longer : (n s t : List ℕ) → length s ≤ length t → length (n ++ s) ≤ length (n ++ t)
longer n s t less = let a : length (n ++ s) ≡ length n + length s = length-append n s in let b : length (n ++ t) ≡ length n + length t = length-append n t in omega (arith, a, b, less)

slashed_first : (k : ℕ) (p : Names) → length (slashed (take k p)) ≤ length (slashed p)
slashed_first zero p = omega arith
slashed_first (suc k) [] = omega arith
slashed_first (suc k) (n ∷ p) = let later : length (n ++ slashed (take k p)) ≤ length (n ++ slashed p) = longer n _ _ (slashed_first k p) in omega (arith, later)

-- the first names of a path have at most its bytes
pub ancestor_is_short : (k : ℕ) (p : Names) → path_bytes (take k p) ≤ path_bytes p
ancestor_is_short zero p = omega arith
ancestor_is_short (suc k) [] = omega arith
ancestor_is_short (suc k) (n ∷ p) = longer n _ _ (slashed_first k p)

-- there are as many paths above a path as it has names,
pub ancestors_counted : (p : Names) → length (ancestors p) ≡ length p
ancestors_counted [] = refl
ancestors_counted (n ∷ p) = let later : length (map (λ (q : Names). n ∷ q) (ancestors p)) ≡ length p = length-map (ancestors p) (λ (q : Names). n ∷ q) ∙ ancestors_counted p in ap (λ (k : ℕ). suc k) later

-- and each has one name more than the one before
stepped : (k : ℕ) (p : Names) → k < length p → take (suc k) (ancestors p) ≡ take k (ancestors p) ++ take k p ∷ []
stepped zero [] less = absurd (omega (arith, less))
stepped zero (n ∷ p) less = refl
stepped (suc k) [] less = absurd (omega (arith, less))
stepped (suc k) (n ∷ p) less =
    let later : take (suc k) (ancestors p) ≡ take k (ancestors p) ++ take k p ∷ [] = stepped k p (omega (arith, less)) in
    let add : Names → Names = λ q. n ∷ q in
    ap (λ (qs : List Names). [] ∷ qs)
    (take-map add (suc k) (ancestors p) ∙ ap (λ (qs : List Names). map add qs) later ∙ map-append add (take k (ancestors p)) (take k p ∷ [])
    ∙ ap (λ (qs : List Names). qs ++ (n ∷ take k p) ∷ []) (sym (take-map add k (ancestors p))))

pub next_ancestor : (k : ℕ) (p : Names) → k < length p → take (k + 1) (ancestors p) ≡ take k (ancestors p) ++ take k p ∷ []
next_ancestor k p less =
    let more : suc k ≡ k + 1 = omega arith in
    subst (λ (m : ℕ). take m (ancestors p) ≡ take k (ancestors p) ++ take k p ∷ []) more (stepped k p less)
