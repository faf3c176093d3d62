-- The first path that is found above a path is the shortest.
use Rattle.std.proofs.Common.{◌≡◌, ◌⊎◌, inl, inr, ℕ, ◌<◌, Bool, true, false, List, [], ◌∷◌, ◌++◌, map, length, sym, ◌∙◌, ap, subst, arith, Some, None}
use Rattle.std.specs.List.{find}
use Rattle.std.proofs.lemmas.Bool.{cond-true, cond-false, cases_Bool}
use Rattle.std.proofs.lemmas.Option.{none-some, same_Some}
use Rattle.dired_text.specs.Paths.{Names}
use Rattle.edit_words.specs.Place.{IsAbove, ancestors}
use Rattle.edit_words.proofs.FindLemmas.{find_none}
use Rattle.edit_words.proofs.AboveLemmas.{ancestors_above}
use Rattle.edit_laws.specs.Lines.{IsShortestAbove}
use Rattle.edit_laws.proofs.ListLemmas.{find_parts}

-- what is found of a mapped list comes from what is found of the list
find_mapped : {X Y : Type 0} (f : X → Y) (test : Y → Bool) (xs : List X) (y : Y) → find test (map f xs) ≡ Some y → (x : X) × (find (λ (x : X). test (f x)) xs ≡ Some x) × (f x ≡ y)
find_mapped f test [] y e = absurd (none-some y e)
find_mapped f test (x ∷ xs) y e = elim (cases_Bool (test (f x))) [
  | inl here ↦ (x, cond-true _ (Some x) (find (λ z. test (f z)) xs) here, same_Some (f x) y (sym (cond-true _ (Some (f x)) (find test (map f xs)) here) ∙ e))
  | inr other ↦
      let more = find_mapped f test xs y (sym (cond-false _ (Some (f x)) (find test (map f xs)) other) ∙ e) in
      (more.0, cond-false _ (Some x) (find (λ z. test (f z)) xs) other ∙ more.1, more.2)
]

shortest : (test : Names → Bool) (w u : Names) → find test (ancestors w) ≡ Some u → (v : Names) → IsAbove v w → length v < length u → test v ≡ false
shortest test [] u e v above less = absurd (none-some u e)
shortest test (n ∷ p) u e v above less = go (shortest (λ (q : Names). test (n ∷ q)) p) (cases_Bool (test []))
  where
    go : ((u : Names) → find (λ (q : Names). test (n ∷ q)) (ancestors p) ≡ Some u → (v : Names) → IsAbove v p → length v < length u → test (n ∷ v) ≡ false)
        → (test [] ≡ true) ⊎ (test [] ≡ false) → test v ≡ false
    go more (inl here) =
        let root : [] ≡ u = same_Some [] u (sym (cond-true _ (Some []) (find test (map (λ (q : Names). n ∷ q) (ancestors p))) here) ∙ e) in
        let nothing : length v < 0 = subst (λ (l : Names). length v < length l) (sym root) less in
        absurd (omega (arith, nothing))
    go more (inr other) = by_v v above less
      where
        later : (q : Names) × (find (λ (q : Names). test (n ∷ q)) (ancestors p) ≡ Some q) × (n ∷ q ≡ u)
        later = find_mapped (λ (q : Names). n ∷ q) test (ancestors p) u (sym (cond-false _ (Some []) (find test (map (λ (q : Names). n ∷ q) (ancestors p))) other) ∙ e)

        by_v : (v : Names) → IsAbove v (n ∷ p) → length v < length u → test v ≡ false
        by_v [] above less = other
        by_v (x ∷ v) above less =
            let is : n ∷ p ≡ x ∷ (v ++ above.0 ∷ above.1) = above.2 in
            let first : n ≡ x = cc in
            let rest : p ≡ v ++ above.0 ∷ above.1 = cc in
            let longer : length (x ∷ v) < length (n ∷ later.0) = subst (λ (l : Names). length (x ∷ v) < length l) (sym later.2) less in
            let shorter : length v < length later.0 = omega (arith, longer) in
            ap (λ (m : List ℕ). test (m ∷ v)) (sym first) ∙ more later.0 later.1 v (above.0, above.1, rest) shorter

pub first_is_shortest : (test : Names → Bool) (w u : Names) → find test (ancestors w) ≡ Some u → IsShortestAbove test w u
first_is_shortest test w u e = let parts = find_parts test (ancestors w) u e in
    record { above = (ancestors_above w u).0 parts.0; passes = parts.1; least = shortest test w u e }

pub none_passes : (test : Names → Bool) (w : Names) → find test (ancestors w) ≡ None → (v : Names) → IsAbove v w → test v ≡ false
none_passes test w e v above = (find_none test (ancestors w)).0 e v ((ancestors_above w v).1 above)
