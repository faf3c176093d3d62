-- Floors that are raised, by the paths of their numbers.
use Rattle.std.proofs.Common.{◌≡◌, ◌≢◌, ◌⊎◌, inl, inr, ℕ, ◌<◌, ◌≤◌, ◌==◌, max, Bool, true, false, ◌&&◌, not, List, [], ◌∷◌, length, map, take, get_or, set, length-set, Option, Some, None, refl, sym, ◌∙◌, ap, ap₂, arith, if◌then◌else◌}
use Rattle.std.proofs.lemmas.Bool.{cases_Bool, eq-eqb, eqb-true, false≢true}
use Rattle.std.proofs.lemmas.List.{get_or-set_other, get_or-set_same, set_past, take-map}
use Rattle.std.proofs.lemmas.List.Folds.{list_all-map}
use Rattle.std.proofs.lemmas.Option.{none-some}
use Rattle.std.proofs.lemmas.Slice.Eq.{bytes_eq-Decides}
use Rattle.std.specs.List.{list_all}
use Rattle.std.specs.Ordering.{eq_by_cmp}
use Rattle.std.specs.Str.{bytes_eq}
use Rattle.dired_text.proofs.PathLemmas.{path_decides}
use Rattle.dired_text.specs.Paths.{Names, path_cmp}
use Rattle.path_map.specs.Walks.{firsts, is_above}
use Rattle.commit_steps.specs.declared.step.Step.{Step}
use Rattle.step_layers.specs.Floors.{floor_at, highest_of, raised_all, raised_at}
use Rattle.step_layers.specs.Layers.{free_from}
use Rattle.step_layers.proofs.FloorLemmas.{highest_named}

-- ---- floors by numbers

abbrev is_number : ℕ → Option ℕ → Bool
is_number i None = false
is_number i (Some j) = i == j

abbrev is_off : ℕ → List (Option ℕ) → Bool
is_off i os = list_all (λ o. not (is_number i o)) os

pub raised_length : (n : ℕ) (o : Option ℕ) (fs : List ℕ) → length (raised_at n o fs) ≡ length fs
raised_length n None fs = refl
raised_length n (Some j) fs = length-set fs j (max (get_or fs j 0) n)

pub raised_all_length : (n : ℕ) (os : List (Option ℕ)) (fs : List ℕ) → length (raised_all n os fs) ≡ length fs
raised_all_length n [] fs = refl
raised_all_length n (o ∷ os) fs = raised_all_length n os (raised_at n o fs) ∙ raised_length n o fs

pub raised_past : (fs : List ℕ) (i x : ℕ) → length fs ≤ i → set fs i x ≡ fs
raised_past fs i x past = set_past fs i x past

raised_one : (n : ℕ) (o : Option ℕ) (fs : List ℕ) (i : ℕ) → i < length fs → get_or (raised_at n o fs) i 0 ≡ max (if not (is_number i o) then 0 else n) (get_or fs i 0)
raised_one n None fs i within = omega arith
raised_one n (Some j) fs i within = by (cases_Bool (i == j))
  where
    by : ((i == j) ≡ true) ⊎ ((i == j) ≡ false) → get_or (set fs j (max (get_or fs j 0) n)) i 0 ≡ max (if not (i == j) then 0 else n) (get_or fs i 0)
    by (inl e) =
        let same : i ≡ j = eqb-true i j e in
        let one : get_or (set fs i (max (get_or fs i 0) n)) i 0 ≡ max (get_or fs i 0) n = get_or-set_same fs i (max (get_or fs i 0) n) 0 within in
        ap (λ (k : ℕ). get_or (set fs k (max (get_or fs k 0) n)) i 0) (sym same) ∙ one ∙ omega arith ∙ sym (ap (λ (b : Bool). max (if not b then 0 else n) (get_or fs i 0)) e)
    by (inr e) =
        get_or-set_other fs j i (max (get_or fs j 0) n) 0 (λ same. false≢true (sym e ∙ eq-eqb i j same))
        ∙ omega arith ∙ sym (ap (λ (b : Bool). max (if not b then 0 else n) (get_or fs i 0)) e)

max_twice : (a b : Bool) (n x : ℕ) → max (if b then 0 else n) (max (if a then 0 else n) x) ≡ max (if a && b then 0 else n) x
max_twice true b n x = omega arith
max_twice false true n x = omega arith
max_twice false false n x = omega arith

raised_get : (n : ℕ) (os : List (Option ℕ)) (fs : List ℕ) (i : ℕ) → i < length fs → get_or (raised_all n os fs) i 0 ≡ max (if is_off i os then 0 else n) (get_or fs i 0)
raised_get n [] fs i within = omega arith
raised_get n (o ∷ os) fs i within =
    let long = raised_length n o fs in
    raised_get n os (raised_at n o fs) i (omega (arith, within, long))
    ∙ ap (λ (x : ℕ). max (if is_off i os then 0 else n) x) (raised_one n o fs i within)
    ∙ max_twice (not (is_number i o)) (is_off i os) n (get_or fs i 0)

-- ---- the paths above one

same_test : {X : Type 0} (f g : X → Bool) (xs : List X) → ((x : X) → f x ≡ g x) → list_all f xs ≡ list_all g xs
same_test f g [] same = refl
same_test f g (x ∷ xs) same = ap₂ (λ (a b : Bool). a && b) (same x) (same_test f g xs same)

all_true : {X : Type 0} (xs : List X) → list_all (λ (x : X). true) xs ≡ true
all_true [] = refl
all_true (x ∷ xs) = all_true xs

eq_same : (p q : Names) → p ≡ q → eq_by_cmp path_cmp p q ≡ true
eq_same p q same = (path_decides p q).1 same

eq_other : (p q : Names) → p ≢ q → eq_by_cmp path_cmp p q ≡ false
eq_other p q other = by (cases_Bool (eq_by_cmp path_cmp p q))
  where
    by : (eq_by_cmp path_cmp p q ≡ true) ⊎ (eq_by_cmp path_cmp p q ≡ false) → eq_by_cmp path_cmp p q ≡ false
    by (inl e) = absurd (other ((path_decides p q).0 e))
    by (inr e) = e

same_tails : (x : List ℕ) (p q : Names) → eq_by_cmp path_cmp (x ∷ p) (x ∷ q) ≡ eq_by_cmp path_cmp p q
same_tails x p q = by (cases_Bool (eq_by_cmp path_cmp p q))
  where
    by : (eq_by_cmp path_cmp p q ≡ true) ⊎ (eq_by_cmp path_cmp p q ≡ false) → eq_by_cmp path_cmp (x ∷ p) (x ∷ q) ≡ eq_by_cmp path_cmp p q
    by (inl e) = eq_same (x ∷ p) (x ∷ q) (ap (λ (r : Names). x ∷ r) ((path_decides p q).0 e)) ∙ sym e
    by (inr e) = eq_other (x ∷ p) (x ∷ q) (λ same. false≢true (sym e ∙ eq_same p q (let k : p ≡ q = cc in k))) ∙ sym e

-- the paths above p, from the root on
abbrev pub aboves : Names → List Names
aboves p = take (length p) (firsts p)

aboves_more : (y : List ℕ) (ys : Names) → aboves (y ∷ ys) ≡ [] ∷ map (λ (q : Names). y ∷ q) (aboves ys)
aboves_more y ys = ap (λ (l : List Names). [] ∷ l) (take-map (λ (q : Names). y ∷ q) (length ys) (firsts ys))

above_tests : (p path : Names) → list_all (λ q. not (eq_by_cmp path_cmp p q)) (aboves path) ≡ not (is_above p path)
above_tests [] [] = refl
above_tests (x ∷ p) [] = refl
above_tests [] (y ∷ ys) = ap (list_all (λ q. not (eq_by_cmp path_cmp [] q))) (aboves_more y ys)
above_tests (x ∷ p) (y ∷ ys) =
    ap (list_all (λ q. not (eq_by_cmp path_cmp (x ∷ p) q))) (aboves_more y ys)
    ∙ ap (λ (b : Bool). not b && list_all (λ q. not (eq_by_cmp path_cmp (x ∷ p) q)) (map (λ (q : Names). y ∷ q) (aboves ys))) (eq_other (x ∷ p) [] (λ e. cc))
    ∙ list_all-map (λ q. not (eq_by_cmp path_cmp (x ∷ p) q)) (λ (q : Names). y ∷ q) (aboves ys)
    ∙ by (cases_Bool (bytes_eq x y)) (above_tests p ys)
  where
    by : (bytes_eq x y ≡ true) ⊎ (bytes_eq x y ≡ false) → list_all (λ q. not (eq_by_cmp path_cmp p q)) (aboves ys) ≡ not (is_above p ys)
        → list_all (λ q. not (eq_by_cmp path_cmp (x ∷ p) (y ∷ q))) (aboves ys) ≡ not (bytes_eq x y && is_above p ys)
    by (inl e) less =
        let same : x ≡ y = (bytes_eq-Decides x y).0 e in
        same_test (λ q. not (eq_by_cmp path_cmp (x ∷ p) (y ∷ q))) (λ q. not (eq_by_cmp path_cmp p q)) (aboves ys) (λ q. ap (λ (z : List ℕ). not (eq_by_cmp path_cmp (x ∷ p) (z ∷ q))) (sym same) ∙ ap not (same_tails x p q))
        ∙ less ∙ sym (ap (λ (b : Bool). not (b && is_above p ys)) e)
    by (inr e) less =
        same_test (λ q. not (eq_by_cmp path_cmp (x ∷ p) (y ∷ q))) (λ (q : Names). true) (aboves ys)
        (λ q. ap not (eq_other (x ∷ p) (y ∷ q) (λ same. false≢true (sym e ∙ (bytes_eq-Decides x y).1 (let k : x ≡ y = cc in k)))))
        ∙ all_true (aboves ys) ∙ sym (ap (λ (b : Bool). not (b && is_above p ys)) e)

-- ---- floors by paths

module _ (at : Names → Option ℕ) (one : (p q : Names) (i : ℕ) → at p ≡ Some i → at q ≡ Some i → p ≡ q) where
  number_test : (p q : Names) (i : ℕ) → at p ≡ Some i → is_number i (at q) ≡ eq_by_cmp path_cmp p q
  number_test p q i is = by (at q) refl (cases_Bool (eq_by_cmp path_cmp p q))
    where
      by : (o : Option ℕ) → at q ≡ o → (eq_by_cmp path_cmp p q ≡ true) ⊎ (eq_by_cmp path_cmp p q ≡ false) → is_number i (at q) ≡ eq_by_cmp path_cmp p q
      by o e (inl same) =
          let there : at q ≡ Some i = ap at (sym ((path_decides p q).0 same)) ∙ is in
          ap (is_number i) there ∙ eq-eqb i i refl ∙ sym same
      by None e (inr differs) = ap (is_number i) e ∙ sym differs
      by (Some j) e (inr differs) = ap (is_number i) e ∙ other (cases_Bool (i == j)) ∙ sym differs
        where
          other : ((i == j) ≡ true) ⊎ ((i == j) ≡ false) → (i == j) ≡ false
          other (inr differ) = differ
          other (inl alike) =
              let there : at q ≡ Some i = e ∙ ap (λ (k : ℕ). Some k) (sym (eqb-true i j alike)) in
              absurd (false≢true (sym differs ∙ eq_same p q (one p q i is there)))

  off_tests : (p : Names) (i : ℕ) (qs : List Names) → at p ≡ Some i → is_off i (map at qs) ≡ list_all (λ q. not (eq_by_cmp path_cmp p q)) qs
  off_tests p i qs is =
      list_all-map (λ o. not (is_number i o)) at qs
      ∙ same_test (λ q. not (is_number i (at q))) (λ q. not (eq_by_cmp path_cmp p q)) qs (λ q. ap not (number_test p q i is))

  -- of the paths above one the floors are raised, and of no others
  pub raised_under : (n : ℕ) (path p : Names) (fs : List ℕ) (i : ℕ) → i < length fs → at p ≡ Some i
      → get_or (raised_all n (map at (aboves path)) fs) i 0 ≡ max (if not (is_above p path) && true then 0 else n) (get_or fs i 0)
  raised_under n path p fs i within is =
      raised_get n (map at (aboves path)) fs i within
      ∙ ap (λ (b : Bool). max (if b then 0 else n) (get_or fs i 0)) (off_tests p i (aboves path) is ∙ above_tests p path ∙ and_true (not (is_above p path)))
    where
      and_true : (b : Bool) → b ≡ (b && true)
      and_true true = refl
      and_true false = refl

  -- of the path itself
  pub raised_here : (n : ℕ) (path p : Names) (fs : List ℕ) (j : ℕ) → ((i : ℕ) → at p ≡ Some i → i < length fs) → at path ≡ Some j
      → floor_at (raised_at n (at path) fs) (at p) ≡ max (if not (eq_by_cmp path_cmp path p) && true then 0 else n) (floor_at fs (at p))
  raised_here n path p fs j within is = by (at p) refl
    where
      as_test : (b : Bool) (x : ℕ) → max (if not b then 0 else n) x ≡ max (if not b && true then 0 else n) x
      as_test true x = refl
      as_test false x = refl

      by : (o : Option ℕ) → at p ≡ o → floor_at (raised_at n (at path) fs) (at p) ≡ max (if not (eq_by_cmp path_cmp path p) && true then 0 else n) (floor_at fs (at p))
      by None e =
          let differs : eq_by_cmp path_cmp path p ≡ false = eq_other path p (λ same. none-some j (sym e ∙ ap at (sym same) ∙ is)) in
          ap (floor_at (raised_at n (at path) fs)) e
          ∙ sym (ap (λ (b : Bool). max (if not b && true then 0 else n) (floor_at fs (at p))) differs ∙ ap (λ (o : Option ℕ). max 0 (floor_at fs o)) e)
      by (Some i) e =
          let test : is_number i (at path) ≡ eq_by_cmp path_cmp path p = number_test p path i e ∙ turned in
          ap (floor_at (raised_at n (at path) fs)) e
          ∙ raised_one n (at path) fs i (within i e)
          ∙ ap (λ (b : Bool). max (if not b then 0 else n) (get_or fs i 0)) test
          ∙ as_test (eq_by_cmp path_cmp path p) (get_or fs i 0)
          ∙ sym (ap (λ (o : Option ℕ). max (if not (eq_by_cmp path_cmp path p) && true then 0 else n) (floor_at fs o)) e)
        where
          turned : eq_by_cmp path_cmp p path ≡ eq_by_cmp path_cmp path p
          turned = go (cases_Bool (eq_by_cmp path_cmp p path))
            where
              go : (eq_by_cmp path_cmp p path ≡ true) ⊎ (eq_by_cmp path_cmp p path ≡ false) → eq_by_cmp path_cmp p path ≡ eq_by_cmp path_cmp path p
              go (inl same) = same ∙ sym (eq_same path p (sym ((path_decides p path).0 same)))
              go (inr differs) = differs ∙ sym (eq_other path p (λ same. false≢true (sym differs ∙ eq_same p path (sym same))))

  -- the highest floor of some paths
  pub highest_is : (fs : List ℕ) (ls : List (List Step)) (rs : List Names) → ((p : Names) → floor_at fs (at p) ≡ free_from 0 (λ q. not (eq_by_cmp path_cmp q p)) ls)
      → highest_of fs (map at rs) ≡ highest_named 0 rs ls
  highest_is fs ls [] floors = refl
  highest_is fs ls (r ∷ rs) floors = ap₂ (λ (a b : ℕ). max a b) (floors r) (highest_is fs ls rs floors)
