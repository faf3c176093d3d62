-- Lists in one order that have the same elements are one list.
use Rattle.std.proofs.Common.{◌≡◌, ℕ, zero, suc, ◌+◌, ◌<◌, false, cond, List, [], ◌∷◌, length, get_or, sum_by, refl, sym, ◌∙◌, ap, arith, true≢false, add-one, IsSorted}
use Rattle.std.specs.Cmp.{IsTotalOrder, IsStrictWeakOrder, tied_itself}
use Rattle.std.specs.FinMap.{IsAntisymmetric}
use Rattle.std.specs.List.{AllByRecursion}
use Rattle.std.specs.Ordering.{is_eq, is_lt, ordering_reverse}
use Rattle.std.specs.declared.cmp.Ordering.{Ordering}
use Rattle.std.specs.declared.cmp.Ordering.TheVariants.{Less, Equal, Greater}
use Rattle.std.proofs.lemmas.List.Elements.{recursion_from_All}
use Rattle.std.proofs.lemmas.List.MinMax.{ranks_by}
use Rattle.std.proofs.lemmas.List.Sorted.{sorted_far}
use Rattle.std.proofs.lemmas.List.Sums.{sum_by-cons}

-- each element is in the one list as often as in the other
abbrev pub HaveSame : {X : Type 0} → List X → List X → Type 0
HaveSame {X} xs ys = (f : X → ℕ) → sum_by f xs ≡ sum_by f ys

-- no element comes before one in front of it
abbrev pub Rises : {X : Type 0} → (X → X → Ordering) → List X → Type 0
Rises R [] = Unit {0}
Rises R (x ∷ xs) = AllByRecursion (λ y. is_lt (R y x) ≡ false) xs × Rises R xs

same_rest : {X : Type 0} (x y : X) (xs ys : List X) → x ≡ y → HaveSame (x ∷ xs) (y ∷ ys) → HaveSame xs ys
same_rest x y xs ys e same f = omega (arith, ap f e, same f, sum_by-cons f x xs, sum_by-cons f y ys)

module _ {X : Type 0} {R : X → X → Ordering} (total : IsTotalOrder R) where
  pub order_ranks : IsStrictWeakOrder (λ x y. is_lt (R x y))
  order_ranks = ranks_by total (λ (x : X). x)

  -- what is below y is below what comes behind y
  below : (x y z : X) → R x y ≡ Less → is_lt (R z y) ≡ false → R x z ≡ Less
  below x y z less behind = by (R x z) refl
    where
      by : (o : Ordering) → R x z ≡ o → R x z ≡ Less
      by Less e = e
      by Equal e = absurd (true≢false (ap is_lt (sym less) ∙ order_ranks.chain x z y (ap is_lt e) behind))
      by Greater e = absurd (true≢false (ap is_lt (sym less) ∙ order_ranks.chain x z y (ap is_lt e) behind))

  abbrev tied : X → X → ℕ
  tied x z = cond (is_eq (R x z)) 1 0

  none_tied : (x y : X) (ys : List X) → R x y ≡ Less → AllByRecursion (λ z. is_lt (R z y) ≡ false) ys → sum_by (tied x) ys ≡ 0
  none_tied x y [] less behind = refl
  none_tied x y (z ∷ zs) less behind =
      let here : tied x z ≡ 0 = ap (λ o. cond (is_eq o) 1 0) (below x y z less behind.0) in
      omega (arith, here, sum_by-cons (tied x) z zs, none_tied x y zs less behind.1)

  -- what is below the first is not among them
  nowhere : (x y : X) (xs ys : List X) → R x y ≡ Less → AllByRecursion (λ z. is_lt (R z y) ≡ false) ys → HaveSame (x ∷ xs) (y ∷ ys) → ⊥
  nowhere x y xs ys less behind same =
      let itself : tied x x ≡ 1 = ap (λ o. cond (is_eq o) 1 0) (tied_itself total x) in
      let first : tied x y ≡ 0 = ap (λ o. cond (is_eq o) 1 0) less in
      omega (arith, itself, first, same (tied x), sum_by-cons (tied x) x xs, sum_by-cons (tied x) y ys, none_tied x y ys less behind)

  pub one_list : IsAntisymmetric R → (xs ys : List X) → Rises R xs → Rises R ys → HaveSame xs ys → xs ≡ ys
  one_list exact [] [] up rise same = refl
  one_list exact [] (y ∷ ys) up rise same = absurd (omega (arith, same (λ x. 1), sum_by-cons (λ x. 1) y ys))
  one_list exact (x ∷ xs) [] up rise same = absurd (omega (arith, same (λ x. 1), sum_by-cons (λ x. 1) x xs))
  one_list exact (x ∷ xs) (y ∷ ys) up rise same =
      by (R x y) refl (λ e. one_list exact xs ys up.1 rise.1 (same_rest x y xs ys e same))
    where
      by : (o : Ordering) → R x y ≡ o → (x ≡ y → xs ≡ ys) → x ∷ xs ≡ y ∷ ys
      by Less e rest = absurd (nowhere x y xs ys e rise.0 same)
      by Equal e rest = let here = exact x y e in λ i. here i ∷ rest here i
      by Greater e rest = absurd (nowhere y x ys xs (total.antisymm y x ∙ ap ordering_reverse e) up.0 (λ f. sym (same f)))

  pub rises : (xs : List X) → IsSorted R xs → Rises R xs
  rises [] up = tt
  rises (x ∷ xs) up = (
    recursion_from_All (λ y. is_lt (R y x) ≡ false) xs (λ k d inside. sorted_far (λ a b. is_lt (R a b)) order_ranks (x ∷ xs) up zero (suc k) d (omega arith) (omega (arith, inside))),
    rises xs (λ k d from inside.
        let next : suc (k + 1) ≡ suc k + 1 = omega arith in
        ap (λ n. is_lt (R (get_or (x ∷ xs) n d) (get_or xs k d))) next ∙ up (suc k) d (omega arith) (omega (arith, inside))),
  )

  next_up : (xs : List X) → Rises R xs → (k : ℕ) (d : X) → suc k < length xs → is_lt (R (get_or xs (suc k) d) (get_or xs k d)) ≡ false
  next_up [] up k d inside = absurd (omega (arith, inside))
  next_up (x ∷ []) up k d inside = absurd (omega (arith, inside))
  next_up (x ∷ y ∷ xs) up zero d inside = up.0.0
  next_up (x ∷ y ∷ xs) up (suc k) d inside = next_up (y ∷ xs) up.1 k d (omega (arith, inside))

  pub sorted : (xs : List X) → Rises R xs → IsSorted R xs
  sorted xs up k d from inside =
      ap (λ n. is_lt (R (get_or xs n d) (get_or xs k d))) (add-one k) ∙ next_up xs up k d (omega (arith, inside))
