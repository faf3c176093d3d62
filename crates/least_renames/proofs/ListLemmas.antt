-- Lists without repeats: their parts, and how long they are.
use Rattle.std.proofs.Common.{◌≡◌, ◌⊎◌, inl, inr, ℕ, ◌+◌, ◌≤◌, Bool, true, false, not, List, [], ◌∷◌, ◌++◌, map, filter, length, sym, ◌∙◌, ap, subst, arith, Contains}
use Rattle.std.proofs.lemmas.Bool.{cond-true, cond-false, cases_Bool, not_from_true, not_from_false, false_from_ne_true}
use Rattle.std.proofs.lemmas.List.Elements.{Contains-append_right, Contains-append_left, Contains-append_cases}
use Rattle.dired_text.specs.Paths.{Names}
use Rattle.edit_words.specs.Rows.{is_same_path}
use Rattle.edit_words.proofs.SameLemmas.{same_path, same_itself}
use Rattle.edit_words.proofs.FindLemmas.{contains_head, contains_tail, contains_none, contains_cases, contains_map_from}
use Rattle.edit_laws.proofs.ListLemmas.{contains_filter, filter_parts}
use Rattle.edit_words.specs.Refusals.{total}
use Rattle.least_renames.specs.Cycles.{HasNoRepeats}

-- ---- parts

module _ {X : Type 0} where
  pub no_repeats_joined : (xs ys : List X) → HasNoRepeats xs → HasNoRepeats ys → ((x : X) → Contains xs x → Contains ys x → ⊥) → HasNoRepeats (xs ++ ys)
  no_repeats_joined [] ys one two apart = two
  no_repeats_joined (x ∷ xs) ys one two apart = (
    λ c. elim (Contains-append_cases xs ys x c) [
      | inl here ↦ one.0 here
      | inr there ↦ apart x (contains_head x xs) there
    ],
    no_repeats_joined xs ys one.1 two (λ y c d. apart y (contains_tail x y xs c) d),
  )

  pub no_repeats_front : (xs ys : List X) → HasNoRepeats (xs ++ ys) → HasNoRepeats xs
  no_repeats_front [] ys all = tt
  no_repeats_front (x ∷ xs) ys all = (λ c. all.0 (Contains-append_left xs ys x c), no_repeats_front xs ys all.1)

  pub no_repeats_back : (xs ys : List X) → HasNoRepeats (xs ++ ys) → HasNoRepeats ys
  no_repeats_back [] ys all = all
  no_repeats_back (x ∷ xs) ys all = no_repeats_back xs ys all.1

  pub no_repeats_apart : (xs ys : List X) → HasNoRepeats (xs ++ ys) → (x : X) → Contains xs x → Contains ys x → ⊥
  no_repeats_apart [] ys all y c d = contains_none y c
  no_repeats_apart (x ∷ xs) ys all y c d = elim (contains_cases x y xs c) [
    | inl same ↦ all.0 (Contains-append_right xs ys x (subst (Contains ys) (sym same) d))
    | inr later ↦ no_repeats_apart xs ys all.1 y later d
  ]

  -- a list without its middle
  pub no_repeats_without : (xs ys zs : List X) → HasNoRepeats (xs ++ (ys ++ zs)) → HasNoRepeats (xs ++ zs)
  no_repeats_without xs ys zs all =
      let rest = no_repeats_back xs (ys ++ zs) all in
      no_repeats_joined xs zs (no_repeats_front xs (ys ++ zs) all) (no_repeats_back ys zs rest)
      (λ x c d. no_repeats_apart xs (ys ++ zs) all x c (Contains-append_right ys zs x d))

  pub no_repeats_filter : (p : X → Bool) (xs : List X) → HasNoRepeats xs → HasNoRepeats (filter p xs)
  no_repeats_filter p [] all = tt
  no_repeats_filter p (x ∷ xs) all = go (no_repeats_filter p xs all.1) (cases_Bool (p x))
    where
      go : HasNoRepeats (filter p xs) → (p x ≡ true) ⊎ (p x ≡ false) → HasNoRepeats (filter p (x ∷ xs))
      go more (inl keep) = subst HasNoRepeats (sym (cond-true (p x) (x ∷ filter p xs) (filter p xs) keep)) ((λ c. all.0 (filter_parts p xs x c).0), more)
      go more (inr out) = subst HasNoRepeats (sym (cond-false (p x) (x ∷ filter p xs) (filter p xs) out)) more

  -- where a list has an element
  pub split_at : (xs : List X) (x : X) → Contains xs x → (front back : List X) × (xs ≡ front ++ x ∷ back)
  split_at [] x c = absurd (contains_none x c)
  split_at (y ∷ xs) x c = elim (contains_cases y x xs c) [
    | inl same ↦ ([], xs, ap (λ (z : X). z ∷ xs) same)
    | inr later ↦ let more = split_at xs x later in (y ∷ more.0, more.1, ap (λ (l : List X). y ∷ l) more.2)
  ]

-- a map that keeps what is different different
pub no_repeats_map : {X Y : Type 0} (f : X → Y) (xs : List X) → ((x y : X) → Contains xs x → Contains xs y → f x ≡ f y → x ≡ y) → HasNoRepeats xs → HasNoRepeats (map f xs)
no_repeats_map f [] apart all = tt
no_repeats_map f (x ∷ xs) apart all = (
  λ c. let m = contains_map_from f (f x) xs c in
      all.0 (subst (Contains xs) (apart m.0 x (contains_tail x m.0 xs m.1) (contains_head x xs) m.2) m.1),
  no_repeats_map f xs (λ y z c d. apart y z (contains_tail x y xs c) (contains_tail x z xs d)) all.1,
)

-- ---- lengths

abbrev less : Names → List Names → List Names
less p ps = filter (λ (q : Names). not (is_same_path p q)) ps

shorter : (p : Names) (ps : List Names) → length (less p ps) ≤ length ps
shorter p [] = omega arith
shorter p (q ∷ ps) = elim (cases_Bool (is_same_path p q)) [
  | inl same ↦ let e = ap length (cond-false _ (q ∷ less p ps) (less p ps) (not_from_true _ same)) in let more = shorter p ps in omega arith
  | inr other ↦ let e = ap length (cond-true _ (q ∷ less p ps) (less p ps) (not_from_false _ other)) in let more = shorter p ps in omega arith
]

strictly_shorter : (p : Names) (ps : List Names) → Contains ps p → length (less p ps) + 1 ≤ length ps
strictly_shorter p [] c = absurd (contains_none p c)
strictly_shorter p (q ∷ ps) c = go (strictly_shorter p ps) (contains_cases q p ps c) (cases_Bool (is_same_path p q))
  where
    go : (Contains ps p → length (less p ps) + 1 ≤ length ps) → (q ≡ p) ⊎ Contains ps p → (is_same_path p q ≡ true) ⊎ (is_same_path p q ≡ false) → length (less p (q ∷ ps)) + 1 ≤ length (q ∷ ps)
    go more which (inl same) = let e = ap length (cond-false _ (q ∷ less p ps) (less p ps) (not_from_true _ same)) in let few = shorter p ps in omega arith
    go more (inl is) (inr other) = let both : true ≡ false = sym (ap (is_same_path p) is ∙ same_itself p) ∙ other in absurd cc
    go more (inr later) (inr other) = let e = ap length (cond-true _ (q ∷ less p ps) (less p ps) (not_from_false _ other)) in let few = more later in omega arith

-- a list without repeats within another is no longer
pub fits_in : (ps qs : List Names) → HasNoRepeats ps → ((p : Names) → Contains ps p → Contains qs p) → length ps ≤ length qs
fits_in [] qs once within = omega arith
fits_in (p ∷ ps) qs once within =
    let more = fits_in ps (less p qs) once.1 (λ q c. contains_filter (λ (q : Names). not (is_same_path p q)) qs q (within q (contains_tail p q ps c))
    (not_from_false _ (false_from_ne_true _ (λ same. once.0 (subst (Contains ps) (sym (same_path p q same)) c))))) in
    let one = strictly_shorter p qs (within p (contains_head p ps)) in
    omega arith

pub total-append : {A : Type 0} (f : A → ℕ) (xs ys : List A) → total f (xs ++ ys) ≡ total f xs + total f ys
total-append f [] ys = omega arith
total-append f (x ∷ xs) ys = let more = total-append f xs ys in omega arith
