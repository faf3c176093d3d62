-- From which layer on paths are free, by the tests that tell it and with a step more.
use Rattle.std.proofs.Common.{◌≡◌, ℕ, zero, suc, ◌+◌, ◌≤◌, max, Bool, true, false, ◌&&◌, not, List, [], ◌∷◌, length, refl, sym, ◌∙◌, ap, ap₂, arith, if◌then◌else◌}
use Rattle.std.proofs.lemmas.List.Folds.{list_all-append}
use Rattle.std.specs.List.{list_all}
use Rattle.std.specs.Ordering.{eq_by_cmp}
use Rattle.dired_text.specs.Paths.{Names, path_cmp}
use Rattle.commit_steps.specs.Tests.{are_apart}
use Rattle.commit_steps.specs.declared.step.Step.{Step}
use Rattle.path_map.specs.Walks.{firsts, is_above}
use Rattle.step_trees.specs.Groups.{all_paths, paths_of}
use Rattle.step_cuts.proofs.ApartLemmas.{apart_all, none_at, paths_pushed}
use Rattle.step_layers.specs.Layers.{free_from, put}

-- ---- tests

-- the floor of a layer with this number
abbrev pub floor_of : ℕ → Bool → ℕ
floor_of k b = if b then 0 else k + 1

floor_both : (k : ℕ) (a b : Bool) (x y : ℕ) → max (floor_of k (a && b)) (max x y) ≡ max (max (floor_of k a) x) (max (floor_of k b) y)
floor_both k true true x y = omega arith
floor_both k true false x y = omega arith
floor_both k false true x y = omega arith
floor_both k false false x y = omega arith

both_tests : {X : Type 0} (f g : X → Bool) (xs : List X) → list_all (λ x. f x && g x) xs ≡ (list_all f xs && list_all g xs)
both_tests f g [] = refl
both_tests f g (x ∷ xs) = ap (λ (b : Bool). (f x && g x) && b) (both_tests f g xs) ∙ four (f x) (g x) (list_all f xs) (list_all g xs)
  where
    four : (a b c d : Bool) → ((a && b) && (c && d)) ≡ ((a && c) && (b && d))
    four true true c d = refl
    four true false true d = refl
    four true false false d = refl
    four false b c d = refl

same_test : {X : Type 0} (f g : X → Bool) (xs : List X) → ((x : X) → f x ≡ g x) → list_all f xs ≡ list_all g xs
same_test f g [] same = refl
same_test f g (x ∷ xs) same = ap₂ (λ (a b : Bool). a && b) (same x) (same_test f g xs same)

pub free_same : (k : ℕ) (f g : Names → Bool) (ls : List (List Step)) → ((q : Names) → f q ≡ g q) → free_from k f ls ≡ free_from k g ls
free_same k f g [] same = refl
free_same k f g (l ∷ ls) same = ap₂ (λ (b : Bool) (n : ℕ). max (floor_of k b) n) (same_test f g (all_paths l) same) (free_same (k + 1) f g ls same)

pub free_both : (k : ℕ) (f g : Names → Bool) (ls : List (List Step)) → free_from k (λ q. f q && g q) ls ≡ max (free_from k f ls) (free_from k g ls)
free_both k f g [] = omega arith
free_both k f g (l ∷ ls) =
    ap₂ (λ (b : Bool) (n : ℕ). max (floor_of k b) n) (both_tests f g (all_paths l)) (free_both (k + 1) f g ls)
    ∙ floor_both k (list_all f (all_paths l)) (list_all g (all_paths l)) (free_from (k + 1) f ls) (free_from (k + 1) g ls)

pub free_small : (k : ℕ) (f : Names → Bool) (ls : List (List Step)) → free_from k f ls ≤ k + length ls
free_small k f [] = omega arith
free_small k f (l ∷ ls) = by (list_all f (all_paths l)) (free_from (k + 1) f ls) (free_small (k + 1) f ls)
  where
    by : (b : Bool) (n : ℕ) → n ≤ k + 1 + length ls → max (floor_of k b) n ≤ k + suc (length ls)
    by true n less = omega (arith, less)
    by false n less = omega (arith, less)

-- ---- the layer of a step, path by path

and_true : (b : Bool) → (b && true) ≡ b
and_true true = refl
and_true false = refl

pub one_path : (p : Names) (ls : List (List Step)) → free_from 0 (λ q. are_apart p q && true) ls ≡ free_from 0 (are_apart p) ls
one_path p ls = free_same 0 (λ q. are_apart p q && true) (are_apart p) ls (λ q. and_true (are_apart p q))

pub two_paths : (from to : Names) (ls : List (List Step)) → free_from 0 (λ q. are_apart from q && (are_apart to q && true)) ls ≡ max (free_from 0 (are_apart from) ls) (free_from 0 (are_apart to) ls)
two_paths from to ls = free_both 0 (are_apart from) (λ q. are_apart to q && true) ls ∙ ap (λ (n : ℕ). max (free_from 0 (are_apart from) ls) n) (one_path to ls)

-- ---- the floor of a path: of those above it, of itself and of those below

-- from which layer on none of these paths is named
abbrev pub highest_named : ℕ → List Names → List (List Step) → ℕ
highest_named k [] ls = 0
highest_named k (r ∷ rs) ls = max (free_from k (λ q. not (eq_by_cmp path_cmp q r)) ls) (highest_named k rs ls)

named_layer : (k : ℕ) (rs : List Names) (l : List Step) (ls : List (List Step)) → highest_named k rs (l ∷ ls) ≡ max (floor_of k (list_all (none_at (all_paths l)) rs)) (highest_named (k + 1) rs ls)
named_layer k [] l ls = omega arith
named_layer k (r ∷ rs) l ls =
    ap (λ (n : ℕ). max (max (floor_of k (none_at (all_paths l) r)) (free_from (k + 1) (λ q. not (eq_by_cmp path_cmp q r)) ls)) n) (named_layer k rs l ls)
    ∙ sym (floor_both k (none_at (all_paths l) r) (list_all (none_at (all_paths l)) rs) (free_from (k + 1) (λ q. not (eq_by_cmp path_cmp q r)) ls) (highest_named (k + 1) rs ls))

named_none : (k : ℕ) (rs : List Names) → highest_named k rs [] ≡ 0
named_none k [] = refl
named_none k (r ∷ rs) = let n = named_none k rs in omega (arith, n)

pub free_related : (k : ℕ) (p : Names) (ls : List (List Step)) → free_from k (are_apart p) ls ≡ max (highest_named k (firsts p) ls) (free_from k (λ q. not (is_above p q)) ls)
free_related k p [] = let n = named_none k (firsts p) in omega (arith, n)
free_related k p (l ∷ ls) =
    ap₂ (λ (b : Bool) (n : ℕ). max (floor_of k b) n) (apart_all p (all_paths l)) (free_related (k + 1) p ls)
    ∙ floor_both k (list_all (none_at (all_paths l)) (firsts p)) (list_all (λ q. not (is_above p q)) (all_paths l)) (highest_named (k + 1) (firsts p) ls) (free_from (k + 1) (λ q. not (is_above p q)) ls)
    ∙ ap (λ (n : ℕ). max n (max (floor_of k (list_all (λ q. not (is_above p q)) (all_paths l))) (free_from (k + 1) (λ q. not (is_above p q)) ls))) (sym (named_layer k (firsts p) l ls))

-- ---- a step more

pub put_free : (f : Names → Bool) (s : Step) (j k : ℕ) (ls : List (List Step)) → free_from k f (put j s ls) ≡ max (if list_all f (paths_of s) then 0 else k + j + 1) (free_from k f ls)
put_free f s zero k [] = ap (λ (b : Bool). max (floor_of k b) 0) (list_all-append f (paths_of s) [] ∙ and_true (list_all f (paths_of s))) ∙ by (list_all f (paths_of s))
  where
    by : (b : Bool) → max (floor_of k b) 0 ≡ max (if b then 0 else k + 0 + 1) 0
    by true = refl
    by false = omega arith
put_free f s zero k (l ∷ ls) =
    ap (λ (b : Bool). max (floor_of k b) (free_from (k + 1) f ls)) (ap (list_all f) (paths_pushed l s) ∙ list_all-append f (all_paths l) (paths_of s))
    ∙ by (list_all f (all_paths l)) (list_all f (paths_of s)) (free_from (k + 1) f ls)
  where
    by : (a b : Bool) (n : ℕ) → max (floor_of k (a && b)) n ≡ max (if b then 0 else k + 0 + 1) (max (floor_of k a) n)
    by true true n = omega arith
    by true false n = omega arith
    by false true n = omega arith
    by false false n = omega arith
put_free f s (suc j) k [] = ap (λ (n : ℕ). max 0 n) (put_free f s j (k + 1) []) ∙ by (list_all f (paths_of s))
  where
    by : (b : Bool) → max 0 (max (if b then 0 else k + 1 + j + 1) 0) ≡ max (if b then 0 else k + suc j + 1) 0
    by true = omega arith
    by false = omega arith
put_free f s (suc j) k (l ∷ ls) =
    ap (λ (n : ℕ). max (floor_of k (list_all f (all_paths l))) n) (put_free f s j (k + 1) ls)
    ∙ by (list_all f (all_paths l)) (list_all f (paths_of s)) (free_from (k + 1) f ls)
  where
    by : (a b : Bool) (n : ℕ) → max (floor_of k a) (max (if b then 0 else k + 1 + j + 1) n) ≡ max (if b then 0 else k + suc j + 1) (max (floor_of k a) n)
    by true true n = omega arith
    by true false n = omega arith
    by false true n = omega arith
    by false false n = omega arith
