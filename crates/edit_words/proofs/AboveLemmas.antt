-- Paths above a path, as a test and as a list.
use Rattle.std.proofs.Common.{◌≡◌, inl, inr, ◌↔◌, ℕ, true, List, [], ◌∷◌, ◌++◌, map, refl, ◌∙◌, ap, subst, Option, Some, None, Contains, Decides}
use Rattle.std.proofs.lemmas.Bool.{false≢true}
use Rattle.dired_text.specs.Paths.{Names, rest_below}
use Rattle.dired_text.proofs.PathLemmas.{rest_below-append, rest_below-some}
use Rattle.edit_words.specs.Place.{IsAbove, is_proper, is_above, ancestors}
use Rattle.edit_words.proofs.FindLemmas.{contains_head, contains_tail, contains_none, contains_cases, contains_map, contains_map_from}

pub above_decides : (u w : Names) → Decides (is_above u w) (IsAbove u w)
above_decides u w = (λ e. by_rest (rest_below u w) refl e, λ above. ap is_proper (ap (rest_below u) above.2 ∙ rest_below-append u (above.0 ∷ above.1)))
  where
    by_rest : (o : Option Names) → rest_below u w ≡ o → is_proper o ≡ true → IsAbove u w
    by_rest None is e = absurd (false≢true e)
    by_rest (Some []) is e = absurd (false≢true e)
    by_rest (Some (n ∷ rest)) is e = (n, rest, rest_below-some u w (n ∷ rest) is)

pub ancestors_above : (w u : Names) → Contains (ancestors w) u ↔ IsAbove u w
ancestors_above w u = (listed w u, above w u)
  where
    listed : (w u : Names) → Contains (ancestors w) u → IsAbove u w
    listed [] u c = absurd (contains_none u c)
    listed (n ∷ p) u c = elim (contains_cases [] u (map (λ (q : Names). n ∷ q) (ancestors p)) c) [
      | inl root ↦ (n, p, ap (λ (l : Names). l ++ n ∷ p) root)
      | inr later ↦
          let front = contains_map_from (λ (q : Names). n ∷ q) u (ancestors p) later in
          let more = listed p front.0 front.1 in
          (more.0, more.1, ap (λ (l : Names). n ∷ l) more.2 ∙ ap (λ (l : Names). l ++ more.0 ∷ more.1) front.2)
    ]

    above : (w u : Names) → IsAbove u w → Contains (ancestors w) u
    above [] [] a = let is : [] ≡ a.0 ∷ a.1 = a.2 in absurd cc
    above [] (x ∷ u) a = let is : [] ≡ x ∷ (u ++ a.0 ∷ a.1) = a.2 in absurd cc
    above (n ∷ p) [] a = contains_head [] (map (λ (q : Names). n ∷ q) (ancestors p))
    above (n ∷ p) (x ∷ u) a =
        let is : n ∷ p ≡ x ∷ (u ++ a.0 ∷ a.1) = a.2 in
        let first : n ≡ x = cc in
        let rest : p ≡ u ++ a.0 ∷ a.1 = cc in
        contains_tail [] (x ∷ u) (map (λ (q : Names). n ∷ q) (ancestors p))
        (subst (λ (y : List ℕ). Contains (map (λ (q : Names). n ∷ q) (ancestors p)) (y ∷ u)) first (contains_map (λ (q : Names). n ∷ q) u (ancestors p) (above p u (a.0, a.1, rest))))
