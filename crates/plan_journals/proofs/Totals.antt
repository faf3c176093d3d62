-- Sums over lists.
use Rattle.std.proofs.Common.{◌≡◌, ◌⊎◌, inl, inr, ℕ, zero, suc, ◌+◌, ◌-◌, ◌≤◌, ◌<◌, Bool, true, false, nat_lt, List, [], ◌∷◌, ◌++◌, map, filter, length, refl, sym, ◌∙◌, ap, arith, Option, Some, None, count_by}
use Rattle.std.specs.Prelude.{Contains}
use Rattle.std.specs.List.{flat_map, filter_map, cons_option}
use Rattle.std.proofs.lemmas.Bool.{cond-true, cond-false, cases_Bool}
use Rattle.std.proofs.lemmas.Bool.Decides.{nat_tests}
use Rattle.std.proofs.lemmas.List.Sums.{length-filter}
use Rattle.edit_words.specs.Refusals.{total}
use Rattle.edit_laws.proofs.ListLemmas.{contains_head, contains_tail, contains_none, contains_cases}

some_of : (n : ℕ) → nat_lt 0 n ≡ true → 0 < n
some_of n e = grind (arith, nat_tests)

none_of : (n : ℕ) → nat_lt 0 n ≡ false → n ≤ 0
none_of n e = grind (arith, nat_tests)

module _ {X : Type 0} where
  pub total-append : (f : X → ℕ) (xs ys : List X) → total f (xs ++ ys) ≡ total f xs + total f ys
  total-append f [] ys = omega arith
  total-append f (x ∷ xs) ys = let more = total-append f xs ys in omega arith

  pub total_most : (f g : X → ℕ) (xs : List X) → ((x : X) → Contains xs x → f x ≤ g x) → total f xs ≤ total g xs
  total_most f g [] most = omega arith
  total_most f g (x ∷ xs) most = let here = most x (contains_head x xs) in let more = total_most f g xs (λ y c. most y (contains_tail x y xs c)) in omega arith

  pub total_both : (f g : X → ℕ) (xs : List X) → total (λ x. f x + g x) xs ≡ total f xs + total g xs
  total_both f g [] = omega arith
  total_both f g (x ∷ xs) = let more = total_both f g xs in omega arith

  pub filtered_less : (test : X → Bool) (f : X → ℕ) (xs : List X) → total f (filter test xs) ≤ total f xs
  filtered_less test f [] = omega arith
  filtered_less test f (x ∷ xs) = go (filtered_less test f xs) (cases_Bool (test x))
    where
      go : total f (filter test xs) ≤ total f xs → (test x ≡ true) ⊎ (test x ≡ false) → total f (filter test (x ∷ xs)) ≤ total f (x ∷ xs)
      go more (inl in_it) = let e = ap (total f) (cond-true (test x) (x ∷ filter test xs) (filter test xs) in_it) in omega arith
      go more (inr out) = let e = ap (total f) (cond-false (test x) (x ∷ filter test xs) (filter test xs) out) in omega arith

  -- without one that doesn't pass the sum is less by it
  pub less_one : (test : X → Bool) (f : X → ℕ) (xs : List X) (y : X) → Contains xs y → test y ≡ false → total f (filter test xs) + f y ≤ total f xs
  less_one test f [] y c out = absurd (contains_none y c)
  less_one test f (x ∷ xs) y c out = go (less_one test f xs y) (contains_cases x y xs c) (cases_Bool (test x))
    where
      go : (Contains xs y → test y ≡ false → total f (filter test xs) + f y ≤ total f xs) → (x ≡ y) ⊎ Contains xs y → (test x ≡ true) ⊎ (test x ≡ false) → total f (filter test (x ∷ xs)) + f y ≤ total f (x ∷ xs)
      go more (inl same) which =
          let e = ap (total f) (cond-false (test x) (x ∷ filter test xs) (filter test xs) (ap test same ∙ out)) in
          let own = ap f same in
          let rest = filtered_less test f xs in
          omega arith
      go more (inr later) (inl in_it) = let e = ap (total f) (cond-true (test x) (x ∷ filter test xs) (filter test xs) in_it) in let rest = more later out in omega arith
      go more (inr later) (inr not_in) = let e = ap (total f) (cond-false (test x) (x ∷ filter test xs) (filter test xs) not_in) in let rest = more later out in omega arith

  -- ---- lists with as many of each kind

  one_lower : (f : X → ℕ) (xs : List X) → total f xs ≡ total (λ x. f x - 1) xs + length (filter (λ x. nat_lt 0 (f x)) xs)
  one_lower f [] = refl
  one_lower f (x ∷ xs) = go (one_lower f xs) (cases_Bool (nat_lt 0 (f x)))
    where
      go : total f xs ≡ total (λ x. f x - 1) xs + length (filter (λ x. nat_lt 0 (f x)) xs) → (nat_lt 0 (f x) ≡ true) ⊎ (nat_lt 0 (f x) ≡ false)
          → total f (x ∷ xs) ≡ total (λ x. f x - 1) (x ∷ xs) + length (filter (λ x. nat_lt 0 (f x)) (x ∷ xs))
      go more (inl some) =
          let low = some_of (f x) some in
          let e = ap length (cond-true (nat_lt 0 (f x)) (x ∷ filter (λ x. nat_lt 0 (f x)) xs) (filter (λ x. nat_lt 0 (f x)) xs) some) in
          omega arith
      go more (inr none) =
          let low = none_of (f x) none in
          let e = ap length (cond-false (nat_lt 0 (f x)) (x ∷ filter (λ x. nat_lt 0 (f x)) xs) (filter (λ x. nat_lt 0 (f x)) xs) none) in
          omega arith

  as_long : (xs ys : List X) → ((test : X → Bool) → count_by test xs ≡ count_by test ys) → (test : X → Bool) → length (filter test xs) ≡ length (filter test ys)
  as_long xs ys same test = length-filter test xs ∙ same test ∙ sym (length-filter test ys)

  all_zero : (f : X → ℕ) (xs : List X) → ((x : X) → Contains xs x → f x ≤ 0) → total f xs ≡ 0
  all_zero f [] low = refl
  all_zero f (x ∷ xs) low = let here = low x (contains_head x xs) in let more = all_zero f xs (λ y c. low y (contains_tail x y xs c)) in omega arith

  same_by : (b : ℕ) (f : X → ℕ) (xs ys : List X) → ((test : X → Bool) → count_by test xs ≡ count_by test ys) → ((x : X) → Contains xs x → f x ≤ b) → ((y : X) → Contains ys y → f y ≤ b)
      → total f xs ≡ total f ys
  same_by zero f xs ys same low_x low_y = all_zero f xs low_x ∙ sym (all_zero f ys low_y)
  same_by (suc b) f xs ys same low_x low_y =
      let rest = same_by b (λ x. f x - 1) xs ys same (λ x c. let low = low_x x c in omega arith) (λ y c. let low = low_y y c in omega arith) in
      let left = one_lower f xs in
      let right = one_lower f ys in
      let top = as_long xs ys same (λ x. nat_lt 0 (f x)) in
      omega arith

  one_of : (f : X → ℕ) (xs : List X) (x : X) → Contains xs x → f x ≤ total f xs
  one_of f [] x c = absurd (contains_none x c)
  one_of f (y ∷ xs) x c = go (one_of f xs x) (contains_cases y x xs c)
    where
      go : (Contains xs x → f x ≤ total f xs) → (y ≡ x) ⊎ Contains xs x → f x ≤ total f (y ∷ xs)
      go more (inl same) = let e = ap f same in omega arith
      go more (inr later) = let rest = more later in omega arith

  -- lists with as many of each kind have one sum
  pub same_total : (f : X → ℕ) (xs ys : List X) → ((test : X → Bool) → count_by test xs ≡ count_by test ys) → total f xs ≡ total f ys
  same_total f xs ys same =
      same_by (total f xs + total f ys) f xs ys same (λ x c. let low = one_of f xs x c in omega arith) (λ y c. let low = one_of f ys y c in omega arith)

pub total-map : {X Y : Type 0} (f : Y → ℕ) (g : X → Y) (xs : List X) → total f (map g xs) ≡ total (λ x. f (g x)) xs
total-map f g [] = refl
total-map f g (x ∷ xs) = let more = total-map f g xs in omega arith

pub total-flat : {X Y : Type 0} (f : Y → ℕ) (g : X → List Y) (xs : List X) → total f (flat_map g xs) ≡ total (λ x. total f (g x)) xs
total-flat f g [] = refl
total-flat f g (x ∷ xs) = let both = total-append f (g x) (flat_map g xs) in let more = total-flat f g xs in omega arith

-- the sum over what there is
abbrev pub of_some : {Y : Type 0} → (Y → ℕ) → Option Y → ℕ
of_some f None = 0
of_some f (Some y) = f y

pub total-some : {X Y : Type 0} (f : Y → ℕ) (g : X → Option Y) (xs : List X) → total f (filter_map g xs) ≡ total (λ x. of_some f (g x)) xs
total-some f g [] = refl
total-some {X = X} {Y = Y} f g (x ∷ xs) = go (g x) (total-some f g xs)
  where
    go : (o : Option Y) → total f (filter_map g xs) ≡ total (λ x. of_some f (g x)) xs → total f (cons_option o (filter_map g xs)) ≡ of_some f o + total (λ x. of_some f (g x)) xs
    go None more = omega arith
    go (Some y) more = omega arith
