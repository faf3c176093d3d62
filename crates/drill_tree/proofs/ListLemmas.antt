-- Lists that are made number by number, and lists whose elements are apart.
use Rattle.std.proofs.Common.{◌≡◌, inl, inr, ℕ, zero, suc, ◌+◌, ◌*◌, ◌<◌, ◌≤◌, List, [], ◌∷◌, ◌++◌, map, length, refl, sym, ◌∙◌, ap, subst, arith, get_or, All, Contains, append_assoc, length-append}
use Rattle.std.specs.List.{AllPairs, flat_map, range_with_len}
use Rattle.std.proofs.lemmas.Bool.{cases_lt}
use Rattle.std.proofs.lemmas.List.{append-nil, get_or_default}
use Rattle.std.proofs.lemmas.List.FromFn.{map-range_with_len_more}
use Rattle.std.proofs.lemmas.List.Kept.{AllPairs-cons}
use Rattle.std.proofs.lemmas.List.Elements.{Contains-append_cases}
use Rattle.edit_laws.proofs.ListLemmas.{contains_head, contains_tail, contains_cases, contains_map, contains_none, map_parts, flat_parts}

module _ {X : Type 0} where
  -- R holds of each and of each later one
  abbrev pub Apart : (X → X → Type 0) → List X → Type 0
  Apart R [] = Unit {0}
  Apart R (x ∷ xs) = ((y : X) → Contains xs y → R x y) × Apart R xs

  pub all_from : (P : X → Type 0) (xs : List X) → ((y : X) → Contains xs y → P y) → All P xs
  all_from P xs h = λ k d below. h (get_or xs k d) (k, below, get_or_default xs k (get_or xs k d) d below)

  pub apart_pairs : (R : X → X → Type 0) (xs : List X) → Apart R xs → AllPairs R xs
  apart_pairs R [] a = λ i j d less below. absurd (omega arith)
  apart_pairs R (x ∷ xs) a = AllPairs-cons R x xs (all_from (R x) xs a.0) (apart_pairs R xs a.1)

  pub apart_append : (R : X → X → Type 0) (xs ys : List X) → Apart R xs → Apart R ys → ((x y : X) → Contains xs x → Contains ys y → R x y) → Apart R (xs ++ ys)
  apart_append R [] ys a b across = b
  apart_append R (x ∷ xs) ys a b across = (
    λ y c. elim (Contains-append_cases xs ys y c) [ inl l ↦ a.0 y l | inr r ↦ across x y (contains_head x xs) r ],
    apart_append R xs ys a.1 b (λ z y cz cy. across z y (contains_tail x z xs cz) cy),
  )

  pub apart_weaker : (R S : X → X → Type 0) (xs : List X) → ((x y : X) → R x y → S x y) → Apart R xs → Apart S xs
  apart_weaker R S [] weaker a = tt
  apart_weaker R S (x ∷ xs) weaker a = (λ y c. weaker x y (a.0 y c), apart_weaker R S xs weaker a.1)

pub apart_map : {X Y : Type 0} (f : Y → X) (R : X → X → Type 0) (ys : List Y) → Apart (λ a b. R (f a) (f b)) ys → Apart R (map f ys)
apart_map f R [] a = tt
apart_map f R (y ∷ ys) a = (λ z c. let m = map_parts f ys z c in subst (R (f y)) m.2 (a.0 m.0 m.1), apart_map f R ys a.1)

pub apart_of_map : {X Y : Type 0} (f : Y → X) (R : X → X → Type 0) (ys : List Y) → Apart R (map f ys) → Apart (λ a b. R (f a) (f b)) ys
apart_of_map f R [] a = tt
apart_of_map f R (y ∷ ys) a = (λ z c. a.0 (f z) (contains_map f ys z c), apart_of_map f R ys a.1)

-- ---- number by number

pub range_parts : (a n g : ℕ) → Contains (range_with_len a n) g → (a ≤ g) × (g < a + n)
range_parts a zero g c = absurd (contains_none g c)
range_parts a (suc n) g c = elim (contains_cases a g (range_with_len (a + 1) n) c) [
  | inl same ↦ (omega (arith, same), omega (arith, same))
  | inr later ↦ let m = range_parts (a + 1) n g later in (omega (arith, m.0), omega (arith, m.1))
]

pub range_has : (a n g : ℕ) → a ≤ g → g < a + n → Contains (range_with_len a n) g
range_has a zero g least most = absurd (omega arith)
range_has a (suc n) g least most = elim (cases_lt a g) [
  | inl less ↦ contains_tail a g (range_with_len (a + 1) n) (range_has (a + 1) n g (omega arith) (omega arith))
  | inr not_less ↦ let same : a ≡ g = omega arith in subst (λ (x : ℕ). Contains (a ∷ range_with_len (a + 1) n) x) same (contains_head a (range_with_len (a + 1) n))
]

pub range_none : (a : ℕ) → range_with_len a 0 ≡ []
range_none a = refl

module _ {X : Type 0} where
  pub flat_apart : (R : X → X → Type 0) (f : ℕ → List X) (a n : ℕ) → ((g : ℕ) → g < a + n → Apart R (f g))
      → ((g h : ℕ) → g < h → h < a + n → (x y : X) → Contains (f g) x → Contains (f h) y → R x y)
      → Apart R (flat_map f (range_with_len a n))
  flat_apart R f a zero each across = tt
  flat_apart R f a (suc n) each across = apart_append R (f a) (flat_map f (range_with_len (a + 1) n))
      (each a (omega arith))
      (flat_apart R f (a + 1) n (λ g below. each g (omega arith)) (λ g h less below. across g h less (omega arith)))
      (λ x y cx cy.
      let p = flat_parts f (range_with_len (a + 1) n) y cy in
      let w = range_parts (a + 1) n p.0 p.1 in
      across a p.0 (omega (arith, w.0)) (omega (arith, w.1)) x y cx p.2)

  pub flat_more : (f : ℕ → List X) (a n : ℕ) → flat_map f (range_with_len a (suc n)) ≡ flat_map f (range_with_len a n) ++ f (a + n)
  flat_more f a zero = append-nil (f a) ∙ ap f (omega arith)
  flat_more f a (suc n) =
      let e : a + 1 + n ≡ a + suc n = omega arith in
      ap (λ (l : List X). f a ++ l) (flat_more f (a + 1) n ∙ ap (λ (k : ℕ). flat_map f (range_with_len (a + 1) n) ++ f k) e)
      ∙ sym (append_assoc (f a) (flat_map f (range_with_len (a + 1) n)) (f (a + suc n)))

  -- a loop that has gone so far, and one further
  pub below_more : (f : ℕ → List X) (n : ℕ) → flat_map f (range_with_len 0 (n + 1)) ≡ flat_map f (range_with_len 0 n) ++ f n
  below_more f n =
      let e : n + 1 ≡ suc n = omega arith in
      let z : 0 + n ≡ n = omega arith in
      ap (λ (k : ℕ). flat_map f (range_with_len 0 k)) e ∙ flat_more f 0 n ∙ ap (λ (k : ℕ). flat_map f (range_with_len 0 n) ++ f k) z

  pub flat_few : (k : ℕ) (f : ℕ → List X) (a n : ℕ) → ((g : ℕ) → length (f g) ≤ k) → length (flat_map f (range_with_len a n)) ≤ n * k
  flat_few k f a zero few = omega arith
  flat_few k f a (suc n) few =
      let size = length-append (f a) (flat_map f (range_with_len (a + 1) n)) in
      let one = few a in
      let rest = flat_few k f (a + 1) n few in
      let more : suc n * k ≡ k + n * k = omega arith in
      omega (arith, size, one, rest, more)

pub map_append : {X Y : Type 0} (f : X → Y) (xs ys : List X) → map f (xs ++ ys) ≡ map f xs ++ map f ys
map_append f [] ys = refl
map_append f (x ∷ xs) ys = ap (λ l. f x ∷ l) (map_append f xs ys)

-- a loop over a map that is mapped, one further
pub map_more : {X Y : Type 0} (h : X → Y) (f : ℕ → X) (n : ℕ) → map h (map f (range_with_len 0 (n + 1))) ≡ map h (map f (range_with_len 0 n)) ++ h (f n) ∷ []
map_more h f n = ap (map h) (map-range_with_len_more f 0 n n (omega arith)) ∙ map_append h (map f (range_with_len 0 n)) (f n ∷ [])
