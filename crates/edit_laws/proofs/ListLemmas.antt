-- Lists that contain something: of one more, filtered, mapped, joined and paired.
use Rattle.std.proofs.Common.{◌≡◌, ◌⊎◌, inl, inr, ℕ, ◌<◌, Bool, true, false, ◌||◌, List, [], ◌∷◌, ◌++◌, map, filter, refl, sym, ◌∙◌, ap, subst, arith, ◌≤◌, get_or, Some}
use Rattle.std.specs.Prelude.{Contains}
use Rattle.std.specs.List.{flat_map, list_any, find, AllZip, AllPairs}
use Rattle.std.proofs.lemmas.Bool.{cond-true, cond-false, cases_Bool, cases_lt, or_from}
use Rattle.std.proofs.lemmas.Option.{none-some, same_Some}
use Rattle.std.proofs.lemmas.List.{get_or_default}
use Rattle.std.proofs.lemmas.List.Folds.{list_any_at}
use Rattle.std.proofs.lemmas.List.Elements.{Contains-append_right, Contains-append_left, Contains-push, Contains-append_cases, Contains-push_cases}

module _ {X : Type 0} where
  pub contains_head : (x : X) (xs : List X) → Contains (x ∷ xs) x
  contains_head x xs = Contains-append_left (x ∷ []) xs x (Contains-push [] x)

  pub contains_tail : (x y : X) (xs : List X) → Contains xs y → Contains (x ∷ xs) y
  contains_tail x y xs c = Contains-append_right (x ∷ []) xs y c

  pub contains_none : (y : X) → Contains [] y → ⊥
  contains_none y c = let below : c.0 < 0 = c.1 in omega arith

  pub contains_cases : (x y : X) (xs : List X) → Contains (x ∷ xs) y → (x ≡ y) ⊎ Contains xs y
  contains_cases x y xs c = elim (Contains-append_cases (x ∷ []) xs y c) [
    | inl one ↦ elim (Contains-push_cases [] x y one) [ inl no_one ↦ absurd (contains_none y no_one) | inr same ↦ inl same ]
    | inr more ↦ inr more
  ]

  pub contains_filter : (p : X → Bool) (xs : List X) (x : X) → Contains xs x → p x ≡ true → Contains (filter p xs) x
  contains_filter p [] y c e = absurd (contains_none y c)
  contains_filter p (x ∷ xs) y c e = go (contains_filter p xs y) (contains_cases x y xs c) (cases_Bool (p x))
    where
      go : (Contains xs y → p y ≡ true → Contains (filter p xs) y) → (x ≡ y) ⊎ Contains xs y → (p x ≡ true) ⊎ (p x ≡ false) → Contains (filter p (x ∷ xs)) y
      go more (inl same) (inl in_p) = subst (λ (l : List X). Contains l y) (sym (cond-true (p x) (x ∷ filter p xs) (filter p xs) in_p)) (subst (λ (z : X). Contains (z ∷ filter p xs) y) (sym same) (contains_head y (filter p xs)))
      go more (inl same) (inr out) = let both : true ≡ false = sym e ∙ ap p (sym same) ∙ out in absurd cc
      go more (inr later) (inl in_p) = subst (λ (l : List X). Contains l y) (sym (cond-true (p x) (x ∷ filter p xs) (filter p xs) in_p)) (contains_tail x y (filter p xs) (more later e))
      go more (inr later) (inr out) = subst (λ (l : List X). Contains l y) (sym (cond-false (p x) (x ∷ filter p xs) (filter p xs) out)) (more later e)

  pub filter_parts : (p : X → Bool) (xs : List X) (x : X) → Contains (filter p xs) x → Contains xs x × (p x ≡ true)
  filter_parts p [] y c = absurd (contains_none y c)
  filter_parts p (x ∷ xs) y c = go (filter_parts p xs y) (cases_Bool (p x))
    where
      go : (Contains (filter p xs) y → Contains xs y × (p y ≡ true)) → (p x ≡ true) ⊎ (p x ≡ false) → Contains (x ∷ xs) y × (p y ≡ true)
      go more (inl in_p) = elim (contains_cases x y (filter p xs) (subst (λ (l : List X). Contains l y) (cond-true (p x) (x ∷ filter p xs) (filter p xs) in_p) c)) [
        | inl same ↦ (subst (λ (z : X). Contains (x ∷ xs) z) same (contains_head x xs), ap p (sym same) ∙ in_p)
        | inr later ↦ let m = more later in (contains_tail x y xs m.0, m.1)
      ]
      go more (inr out) = let m = more (subst (λ (l : List X). Contains l y) (cond-false (p x) (x ∷ filter p xs) (filter p xs) out) c) in (contains_tail x y xs m.0, m.1)

  -- what passes the test of `list_any`
  pub any_parts : (p : X → Bool) (xs : List X) → list_any p xs ≡ true → (x : X) × Contains xs x × (p x ≡ true)
  any_parts p [] e = cc
  any_parts p (x ∷ xs) e = elim (cases_Bool (p x)) [
    | inl here ↦ (x, contains_head x xs, here)
    | inr other ↦ let more = any_parts p xs (sym (ap (λ (b : Bool). b || list_any p xs) other) ∙ e) in (more.0, contains_tail x more.0 xs more.1, more.2)
  ]

  pub any_from : (p : X → Bool) (xs : List X) (x : X) → Contains xs x → p x ≡ true → list_any p xs ≡ true
  any_from p xs x (k, below, at) e = list_any_at p xs k x below (ap p at ∙ e)

  pub any_none : (p : X → Bool) (xs : List X) → ((x : X) → Contains xs x → p x ≡ false) → list_any p xs ≡ false
  any_none p [] none = refl
  any_none p (x ∷ xs) none = or_from _ _ (none x (contains_head x xs)) (any_none p xs (λ y c. none y (contains_tail x y xs c)))

  -- what `find` finds
  pub find_parts : (p : X → Bool) (xs : List X) (x : X) → find p xs ≡ Some x → Contains xs x × (p x ≡ true)
  find_parts p [] y e = absurd (none-some y e)
  find_parts p (x ∷ xs) y e = elim (cases_Bool (p x)) [
    | inl here ↦ let is : x ≡ y = same_Some x y (sym (cond-true (p x) (Some x) (find p xs) here) ∙ e) in
        (subst (λ (z : X). Contains (x ∷ xs) z) is (contains_head x xs), ap p (sym is) ∙ here)
    | inr other ↦ let more = find_parts p xs y (sym (cond-false (p x) (Some x) (find p xs) other) ∙ e) in (contains_tail x y xs more.0, more.1)
  ]

  pub find_from : (p : X → Bool) (xs : List X) (x : X) → Contains xs x → p x ≡ true → (y : X) × (find p xs ≡ Some y)
  find_from p [] y c e = absurd (contains_none y c)
  find_from p (x ∷ xs) y c e = go (find_from p xs y) (contains_cases x y xs c) (cases_Bool (p x))
    where
      go : (Contains xs y → p y ≡ true → (z : X) × (find p xs ≡ Some z)) → (x ≡ y) ⊎ Contains xs y → (p x ≡ true) ⊎ (p x ≡ false) → (z : X) × (find p (x ∷ xs) ≡ Some z)
      go more which (inl here) = (x, cond-true (p x) (Some x) (find p xs) here)
      go more (inl same) (inr other) = let both : true ≡ false = sym e ∙ ap p (sym same) ∙ other in absurd cc
      go more (inr later) (inr other) = let m = more later e in (m.0, cond-false (p x) (Some x) (find p xs) other ∙ m.1)

  -- two that a list contains are one, or one stands before the other
  pub data Ordered (R : X → X → Type 0) (x y : X) : Type 0 where
    one : x ≡ y → Ordered R x y
    before : R x y → Ordered R x y
    after : R y x → Ordered R x y

  pub ordered : (R : X → X → Type 0) (xs : List X) (x y : X) → AllPairs R xs → Contains xs x → Contains xs y → Ordered R x y
  ordered R xs x y all (i, i_below, at_x) (j, j_below, at_y) = go (cases_lt i j) (cases_lt j i)
    where
      at_y' : (d : X) → get_or xs j d ≡ y
      at_y' d = get_or_default xs j d y j_below ∙ at_y

      at_x' : (d : X) → get_or xs i d ≡ x
      at_x' d = get_or_default xs i d x i_below ∙ at_x

      go : (i < j) ⊎ (j ≤ i) → (j < i) ⊎ (i ≤ j) → Ordered R x y
      go (inl less) more = before (subst (λ (z : X). R z y) at_x (subst (R (get_or xs i x)) (at_y' x) (all i j x less j_below)))
      go (inr least) (inl less) = after (subst (λ (z : X). R z x) at_y (subst (R (get_or xs j y)) (at_x' y) (all j i y less i_below)))
      go (inr least) (inr most) = let same : i ≡ j = omega arith in one (sym at_x ∙ ap (λ (k : ℕ). get_or xs k x) same ∙ at_y' x)

pub contains_map : {X Y : Type 0} (f : X → Y) (xs : List X) (x : X) → Contains xs x → Contains (map f xs) (f x)
contains_map f [] y c = absurd (contains_none y c)
contains_map {Y = Y} f (x ∷ xs) y c = go (contains_map f xs y) (contains_cases x y xs c)
  where
    go : (Contains xs y → Contains (map f xs) (f y)) → (x ≡ y) ⊎ Contains xs y → Contains (f x ∷ map f xs) (f y)
    go more (inl same) = subst (λ (z : Y). Contains (f x ∷ map f xs) z) (ap f same) (contains_head (f x) (map f xs))
    go more (inr later) = contains_tail (f x) (f y) (map f xs) (more later)

pub map_parts : {X Y : Type 0} (f : X → Y) (xs : List X) (y : Y) → Contains (map f xs) y → (x : X) × Contains xs x × (f x ≡ y)
map_parts f [] y c = absurd (contains_none y c)
map_parts f (x ∷ xs) y c = elim (contains_cases (f x) y (map f xs) c) [
  | inl same ↦ (x, contains_head x xs, same)
  | inr later ↦ let more = map_parts f xs y later in (more.0, contains_tail x more.0 xs more.1, more.2)
]

pub contains_flat : {X Y : Type 0} (f : X → List Y) (xs : List X) (x : X) (y : Y) → Contains xs x → Contains (f x) y → Contains (flat_map f xs) y
contains_flat f [] x y c d = absurd (contains_none x c)
contains_flat f (z ∷ xs) x y c d = go (contains_flat f xs x y) (contains_cases z x xs c)
  where
    go : (Contains xs x → Contains (f x) y → Contains (flat_map f xs) y) → (z ≡ x) ⊎ Contains xs x → Contains (f z ++ flat_map f xs) y
    go more (inl same) = Contains-append_left (f z) (flat_map f xs) y (subst (λ (l : _). Contains (f l) y) (sym same) d)
    go more (inr later) = Contains-append_right (f z) (flat_map f xs) y (more later d)

pub flat_parts : {X Y : Type 0} (f : X → List Y) (xs : List X) (y : Y) → Contains (flat_map f xs) y → (x : X) × Contains xs x × Contains (f x) y
flat_parts f [] y c = absurd (contains_none y c)
flat_parts f (x ∷ xs) y c = elim (Contains-append_cases (f x) (flat_map f xs) y c) [
  | inl here ↦ (x, contains_head x xs, here)
  | inr later ↦ let more = flat_parts f xs y later in (more.0, contains_tail x more.0 xs more.1, more.2)
]

-- the other of a pair
pub zip_right : {X Y : Type 0} (R : X → Y → Type 0) (xs : List X) (ys : List Y) (y : Y) → AllZip R xs ys → Contains ys y → (x : X) × Contains xs x × R x y
zip_right R [] [] y all c = absurd (contains_none y c)
zip_right R [] (z ∷ ys) y all c = absurd all
zip_right R (x ∷ xs) [] y all c = absurd all
zip_right R (x ∷ xs) (z ∷ ys) y all c = elim (contains_cases z y ys c) [
  | inl same ↦ (x, contains_head x xs, subst (R x) same all.0)
  | inr later ↦ let more = zip_right R xs ys y all.1 later in (more.0, contains_tail x more.0 xs more.1, more.2)
]

-- another relation, where the first holds of an element
pub zip_weaker : {X Y : Type 0} (R S : X → Y → Type 0) (xs : List X) (ys : List Y) → ((x : X) (y : Y) → Contains xs x → R x y → S x y) → AllZip R xs ys → AllZip S xs ys
zip_weaker R S [] [] weaker all = all
zip_weaker R S [] (y ∷ ys) weaker all = all
zip_weaker R S (x ∷ xs) [] weaker all = all
zip_weaker R S (x ∷ xs) (y ∷ ys) weaker all = (weaker x y (contains_head x xs) all.0, zip_weaker R S xs ys (λ z v c r. weaker z v (contains_tail x z xs c) r) all.1)

-- the other of a pair
pub zip_left : {X Y : Type 0} (R : X → Y → Type 0) (xs : List X) (ys : List Y) (x : X) → AllZip R xs ys → Contains xs x → (y : Y) × Contains ys y × R x y
zip_left R [] [] x all c = absurd (contains_none x c)
zip_left R [] (y ∷ ys) x all c = absurd all
zip_left R (z ∷ xs) [] x all c = absurd all
zip_left R (z ∷ xs) (y ∷ ys) x all c = elim (contains_cases z x xs c) [
  | inl same ↦ (y, contains_head y ys, subst (λ (z : _). R z y) same all.0)
  | inr later ↦ let more = zip_left R xs ys x all.1 later in (more.0, contains_tail y more.0 ys more.1, more.2)
]
