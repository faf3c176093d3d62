-- Where at most one of a list passes a test it has no second place.
use Rattle.std.proofs.Common.{◌≡◌, ◌⊎◌, inl, inr, ℕ, suc, ◌+◌, Bool, true, false, List, [], ◌∷◌, drop, map, cond, Option, Some, None, refl, sym, ◌∙◌, ap, arith}
use Rattle.std.specs.List.{AllByRecursion, find, position, position_from}
use Rattle.std.specs.List.Sorted.{IsStrictlySortedBy}
use Rattle.std.specs.Option.{option_map}
use Rattle.std.specs.declared.cmp.Ordering.{Ordering}
use Rattle.std.specs.declared.cmp.Ordering.TheVariants.{Less}
use Rattle.std.proofs.lemmas.Iterator.Adapters.{position_from-zero}
use Rattle.std.proofs.lemmas.Map.Keys.{sorted_head, sorted_tail}
use Rattle.staging_names.specs.Tests.{behind_place, second_position}

-- ---- the first place in a longer list

shifted_by : {X : Type 0} (p : X → Bool) (i : ℕ) (xs : List X) (b : Bool) → position_from p (i + 1 + 1) xs ≡ option_map suc (position_from p (i + 1) xs)
    → cond b (Some (i + 1)) (position_from p (i + 1 + 1) xs) ≡ option_map suc (cond b (Some i) (position_from p (i + 1) xs))
shifted_by p i xs true e = let more : i + 1 ≡ suc i = omega arith in ap (λ (n : ℕ). Some n) more
shifted_by p i xs false e = e

shifted : {X : Type 0} (p : X → Bool) (i : ℕ) (xs : List X) → position_from p (i + 1) xs ≡ option_map suc (position_from p i xs)
shifted p i [] = refl
shifted p i (x ∷ xs) = shifted_by p i xs (p x) (shifted p (i + 1) xs)

pub position-cons : {X : Type 0} (p : X → Bool) (x : X) (xs : List X) → position p (x ∷ xs) ≡ cond (p x) (Some 0) (option_map suc (position p xs))
position-cons p x xs =
    position_from-zero p (x ∷ xs)
    ∙ ap (λ (o : Option ℕ). cond (p x) (Some 0) o) (shifted p 0 xs ∙ ap (option_map suc) (sym (position_from-zero p xs)))

-- ---- at most one

abbrev pub AtMostOne : {X : Type 0} → (X → Bool) → List X → Type 0
AtMostOne p [] = Unit {0}
AtMostOne p (x ∷ xs) = ((p x ≡ false) × AtMostOne p xs) ⊎ AllByRecursion (λ y. p y ≡ false) xs

nowhere : {X : Type 0} (p : X → Bool) (i : ℕ) (xs : List X) → AllByRecursion (λ x. p x ≡ false) xs → position_from p i xs ≡ None
nowhere p i [] all = refl
nowhere p i (x ∷ xs) all = ap (λ (b : Bool). cond b (Some i) (position_from p (i + 1) xs)) all.0 ∙ nowhere p (i + 1) xs all.1

pub at_none : {X : Type 0} (p : X → Bool) (xs : List X) → AllByRecursion (λ x. p x ≡ false) xs → position p xs ≡ None
at_none p xs all = position_from-zero p xs ∙ nowhere p 0 xs all

dropped : {X : Type 0} (x : X) (xs : List X) (i : ℕ) → drop (suc i + 1) (x ∷ xs) ≡ drop (i + 1) xs
dropped x xs i = let more : suc i + 1 ≡ suc (i + 1) = omega arith in ap (λ (k : ℕ). drop k (x ∷ xs)) more

none_map : (i : ℕ) (o : Option ℕ) → option_map (λ (j : ℕ). i + 1 + j) o ≡ None → o ≡ None
none_map i None e = refl
none_map i (Some j) e = cc

passed_by : {X : Type 0} (p : X → Bool) (x : X) (xs : List X) (o : Option ℕ) → behind_place p xs o ≡ None → behind_place p (x ∷ xs) (option_map suc o) ≡ None
passed_by p x xs None e = refl
passed_by p x xs (Some i) e = ap (option_map (λ (j : ℕ). suc i + 1 + j)) (ap (position p) (dropped x xs i) ∙ none_map i (position p (drop (i + 1) xs)) e)

-- where the first doesn't pass
passed : {X : Type 0} (p : X → Bool) (x : X) (xs : List X) → p x ≡ false → second_position p xs ≡ None → second_position p (x ∷ xs) ≡ None
passed p x xs fails e =
    ap (behind_place p (x ∷ xs)) (position-cons p x xs ∙ ap (λ (b : Bool). cond b (Some 0) (option_map suc (position p xs))) fails)
    ∙ passed_by p x xs (position p xs) e

-- where none behind the first one passes
alone_by : {X : Type 0} (p : X → Bool) (x : X) (xs : List X) → position p xs ≡ None → (b : Bool) → p x ≡ b → second_position p (x ∷ xs) ≡ None
alone_by p x xs none true e =
    ap (behind_place p (x ∷ xs)) (position-cons p x xs ∙ ap (λ (b : Bool). cond b (Some 0) (option_map suc (position p xs))) e)
    ∙ ap (option_map (λ (j : ℕ). 0 + 1 + j)) none
alone_by p x xs none false e = passed p x xs e (ap (behind_place p xs) none)

pub no_second : {X : Type 0} (p : X → Bool) (xs : List X) → AtMostOne p xs → second_position p xs ≡ None
no_second p [] one = refl
no_second p (x ∷ xs) (inl fails) = passed p x xs fails.0 (no_second p xs fails.1)
no_second p (x ∷ xs) (inr all) = alone_by p x xs (at_none p xs all) (p x) refl

-- ---- names rise, so that only one of them can be such

others : {X Y : Type 0} (c : X → X → Ordering) (f : X → Y) (p : Y → Bool) → ((x : X) → c x x ≡ Less → ⊥) → (x z : X) → x ≡ z → (xs : List X)
    → AllByRecursion (λ y. p (f y) ≡ true → y ≡ z) xs → AllByRecursion (λ y. c x y ≡ Less) xs → AllByRecursion (λ y. p y ≡ false) (map f xs)
others c f p irr x z is [] one less = tt
others c f p irr x z is (y ∷ ys) one less = (by_test (p (f y)) refl, others c f p irr x z is ys one.1 less.1)
  where
    by_test : (b : Bool) → p (f y) ≡ b → p (f y) ≡ false
    by_test true e = absurd (irr x (ap (c x) (is ∙ sym (one.0 e)) ∙ less.0))
    by_test false e = e

pub only_one : {X Y : Type 0} (c : X → X → Ordering) (f : X → Y) (p : Y → Bool) → ((x : X) → c x x ≡ Less → ⊥) → (z : X) (xs : List X)
    → AllByRecursion (λ y. p (f y) ≡ true → y ≡ z) xs → IsStrictlySortedBy c xs → AtMostOne p (map f xs)
only_one c f p irr z [] one rise = tt
only_one c f p irr z (x ∷ xs) one rise = by_test (p (f x)) refl (only_one c f p irr z xs one.1 (sorted_tail c x xs rise))
  where
    by_test : (b : Bool) → p (f x) ≡ b → AtMostOne p (map f xs) → AtMostOne p (map f (x ∷ xs))
    by_test true e more = inr (others c f p irr x z (one.0 e) xs one.1 (sorted_head c x xs rise))
    by_test false e more = inl (e, more)

-- ---- the first that passes

pub found_first : {X Y : Type 0} (f : X → Y) (p : Y → Bool) (z : X) (xs : List X) → AllByRecursion (λ y. p (f y) ≡ true → y ≡ z) xs
    → AllByRecursion (λ y. p y ≡ false) (map f xs) ⊎ (find p (map f xs) ≡ Some (f z))
found_first f p z [] one = inl tt
found_first f p z (y ∷ ys) one = by_test (p (f y)) refl (found_first f p z ys one.1)
  where
    by_test : (b : Bool) → p (f y) ≡ b → AllByRecursion (λ x. p x ≡ false) (map f ys) ⊎ (find p (map f ys) ≡ Some (f z)) → AllByRecursion (λ x. p x ≡ false) (map f (y ∷ ys)) ⊎ (find p (map f (y ∷ ys)) ≡ Some (f z))
    by_test true e more = inr (ap (λ (b : Bool). cond b (Some (f y)) (find p (map f ys))) e ∙ ap (λ x. Some (f x)) (one.0 e))
    by_test false e (inl all) = inl (e, all)
    by_test false e (inr found) = inr (ap (λ (b : Bool). cond b (Some (f y)) (find p (map f ys))) e ∙ found)

pub not_found : {X : Type 0} (p : X → Bool) (xs : List X) → AllByRecursion (λ x. p x ≡ false) xs → find p xs ≡ None
not_found p [] all = refl
not_found p (x ∷ xs) all = ap (λ (b : Bool). cond b (Some x) (find p xs)) all.0 ∙ not_found p xs all.1
