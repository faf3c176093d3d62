-- A path is apart from all named ones where none was named at or above it, and it is above none of them.
use Rattle.std.proofs.Common.{◌≡◌, ◌⊎◌, inl, inr, ℕ, true, false, Bool, ◌&&◌, not, is_none, cond, List, [], ◌∷◌, ◌++◌, map, option_map, Option, Some, None, refl, sym, ◌∙◌, ap, ap₂, append_assoc}
use Rattle.std.proofs.lemmas.Bool.{cases_Bool, false≢true}
use Rattle.std.proofs.lemmas.List.{append-nil}
use Rattle.std.proofs.lemmas.List.Folds.{list_all-append, list_all-map}
use Rattle.std.proofs.lemmas.Slice.Eq.{bytes_eq-Decides}
use Rattle.std.specs.List.{list_all}
use Rattle.std.specs.Ordering.{eq_by_cmp}
use Rattle.std.specs.Str.{bytes_eq}
use Rattle.dired_text.proofs.PathLemmas.{path_decides}
use Rattle.dired_text.specs.Paths.{Names, path_cmp, rest_below}
use Rattle.commit_steps.specs.Tests.{are_apart}
use Rattle.commit_steps.specs.declared.step.Step.{Step}
use Rattle.path_map.specs.Walks.{firsts, is_above}
use Rattle.step_trees.specs.Groups.{all_apart, all_paths, paths_of}

-- ---- tests

same_test : {X : Type 0} (f g : X → Bool) (xs : List X) → ((x : X) → f x ≡ g x) → list_all f xs ≡ list_all g xs
same_test f g [] same = refl
same_test f g (x ∷ xs) same = ap₂ (λ (a b : Bool). a && b) (same x) (same_test f g xs same)

four : (a b c d : Bool) → ((a && b) && (c && d)) ≡ ((a && c) && (b && d))
four true true c d = refl
four true false true d = refl
four true false false d = refl
four false b c d = refl

both_tests : {X : Type 0} (f g : X → Bool) (xs : List X) → list_all (λ x. f x && g x) xs ≡ (list_all f xs && list_all g xs)
both_tests f g [] = refl
both_tests f g (x ∷ xs) = ap (λ (b : Bool). (f x && g x) && b) (both_tests f g xs) ∙ four (f x) (g x) (list_all f xs) (list_all g xs)

no_test : {X : Type 0} (xs : List X) → list_all (λ (x : X). true) xs ≡ true
no_test [] = refl
no_test (x ∷ xs) = no_test xs

and_comm : (a b : Bool) → (a && b) ≡ (b && a)
and_comm true true = refl
and_comm true false = refl
and_comm false true = refl
and_comm false false = refl

and_none : (a : Bool) → (a && false) ≡ false
and_none true = refl
and_none false = refl

and_all : (a : Bool) → (a && true) ≡ a
and_all true = refl
and_all false = refl

-- ---- one path and another

same_tails : (x : List ℕ) (q p : Names) → eq_by_cmp path_cmp (x ∷ q) (x ∷ p) ≡ eq_by_cmp path_cmp q p
same_tails x q p = go (cases_Bool (eq_by_cmp path_cmp q p)) (cases_Bool (eq_by_cmp path_cmp (x ∷ q) (x ∷ p)))
  where
    tail_of : x ∷ q ≡ x ∷ p → q ≡ p
    tail_of e = cc

    go : (eq_by_cmp path_cmp q p ≡ true) ⊎ (eq_by_cmp path_cmp q p ≡ false) → (eq_by_cmp path_cmp (x ∷ q) (x ∷ p) ≡ true) ⊎ (eq_by_cmp path_cmp (x ∷ q) (x ∷ p) ≡ false)
        → eq_by_cmp path_cmp (x ∷ q) (x ∷ p) ≡ eq_by_cmp path_cmp q p
    go (inl a) b = (path_decides (x ∷ q) (x ∷ p)).1 (ap (λ (r : Names). x ∷ r) ((path_decides q p).0 a)) ∙ sym a
    go (inr a) (inl b) = absurd (false≢true (sym a ∙ (path_decides q p).1 (tail_of ((path_decides (x ∷ q) (x ∷ p)).0 b))))
    go (inr a) (inr b) = b ∙ sym a

other_heads : (x y : List ℕ) (q p : Names) → bytes_eq x y ≡ false → eq_by_cmp path_cmp (x ∷ q) (y ∷ p) ≡ false
other_heads x y q p differs = go (cases_Bool (eq_by_cmp path_cmp (x ∷ q) (y ∷ p)))
  where
    head_of : x ∷ q ≡ y ∷ p → x ≡ y
    head_of e = cc

    go : (eq_by_cmp path_cmp (x ∷ q) (y ∷ p) ≡ true) ⊎ (eq_by_cmp path_cmp (x ∷ q) (y ∷ p) ≡ false) → eq_by_cmp path_cmp (x ∷ q) (y ∷ p) ≡ false
    go (inl a) = absurd (false≢true (sym differs ∙ (bytes_eq-Decides x y).1 (head_of ((path_decides (x ∷ q) (y ∷ p)).0 a))))
    go (inr a) = a

-- none of the paths from the root down to p is q
abbrev pub is_off : Names → Names → Bool
is_off q p = list_all (λ r. not (eq_by_cmp path_cmp q r)) (firsts p)

off_below : (x y : List ℕ) (q p : Names) → is_off (x ∷ q) (y ∷ p) ≡ list_all (λ r. not (eq_by_cmp path_cmp (x ∷ q) (y ∷ r))) (firsts p)
off_below x y q p = list_all-map (λ r. not (eq_by_cmp path_cmp (x ∷ q) r)) (λ (r : Names). y ∷ r) (firsts p)

off_is : (q p : Names) → is_none (rest_below q p) ≡ is_off q p
off_is [] p = sym (root p)
  where
    root : (p : Names) → is_off [] p ≡ false
    root [] = refl
    root (y ∷ p) = refl
off_is (x ∷ q) [] = refl
off_is (x ∷ q) (y ∷ p) = go (off_is q p) (cases_Bool (bytes_eq x y))
  where
    go : is_none (rest_below q p) ≡ is_off q p → (bytes_eq x y ≡ true) ⊎ (bytes_eq x y ≡ false) → is_none (rest_below (x ∷ q) (y ∷ p)) ≡ is_off (x ∷ q) (y ∷ p)
    go later (inl same) =
        let e : x ≡ y = (bytes_eq-Decides x y).0 same in
        ap (λ (b : Bool). is_none (cond b (rest_below q p) None)) same ∙ later
        ∙ sym (same_test (λ r. not (eq_by_cmp path_cmp (x ∷ q) (y ∷ r))) (λ r. not (eq_by_cmp path_cmp q r)) (firsts p)
        (λ r. ap (λ (n : List ℕ). not (eq_by_cmp path_cmp (x ∷ q) (n ∷ r))) (sym e) ∙ ap not (same_tails x q r)))
        ∙ sym (off_below x y q p)
    go later (inr differs) =
        ap (λ (b : Bool). is_none (cond b (rest_below q p) None)) differs
        ∙ sym (no_test (firsts p))
        ∙ sym (same_test (λ r. not (eq_by_cmp path_cmp (x ∷ q) (y ∷ r))) (λ (r : Names). true) (firsts p) (λ r. ap not (other_heads x y q r differs)))
        ∙ sym (off_below x y q p)

-- where q is not at or above p, p is above q or apart
above_is : (p q : Names) → is_none (rest_below q p) ≡ true → is_none (rest_below p q) ≡ not (is_above p q)
above_is [] [] off = cc
above_is [] (y ∷ q) off = refl
above_is (x ∷ p) [] off = cc
above_is (x ∷ p) (y ∷ q) off = go (above_is p q) (cases_Bool (bytes_eq x y))
  where
    go : (is_none (rest_below q p) ≡ true → is_none (rest_below p q) ≡ not (is_above p q)) → (bytes_eq x y ≡ true) ⊎ (bytes_eq x y ≡ false)
        → is_none (rest_below (x ∷ p) (y ∷ q)) ≡ not (is_above (x ∷ p) (y ∷ q))
    go later (inl same) =
        let back : bytes_eq y x ≡ true = (bytes_eq-Decides y x).1 (sym ((bytes_eq-Decides x y).0 same)) in
        let less : is_none (rest_below q p) ≡ true = sym (ap (λ (b : Bool). is_none (cond b (rest_below q p) None)) back) ∙ off in
        ap (λ (b : Bool). is_none (cond b (rest_below p q) None)) same ∙ later less ∙ sym (ap (λ (b : Bool). not (b && is_above p q)) same)
    go later (inr differs) = ap (λ (b : Bool). is_none (cond b (rest_below p q) None)) differs ∙ sym (ap (λ (b : Bool). not (b && is_above p q)) differs)

apart_other : (p q : Names) → are_apart p q ≡ are_apart q p
apart_other p q = and_comm (is_none (rest_below p q)) (is_none (rest_below q p))

apart_is : (p q : Names) → are_apart p q ≡ (is_off q p && not (is_above p q))
apart_is p q = apart_other p q ∙ go (cases_Bool (is_none (rest_below q p))) ∙ ap (λ (b : Bool). b && not (is_above p q)) (off_is q p)
  where
    go : (is_none (rest_below q p) ≡ true) ⊎ (is_none (rest_below q p) ≡ false) → (is_none (rest_below q p) && is_none (rest_below p q)) ≡ (is_none (rest_below q p) && not (is_above p q))
    go (inl off) = ap (λ (b : Bool). is_none (rest_below q p) && b) (above_is p q off)
    go (inr at) = ap (λ (b : Bool). b && is_none (rest_below p q)) at ∙ sym (ap (λ (b : Bool). b && not (is_above p q)) at)

-- ---- one path and all that were named

abbrev pub none_at : List Names → Names → Bool
none_at ps r = list_all (λ q. not (eq_by_cmp path_cmp q r)) ps

off_all : (p : Names) (ps : List Names) → list_all (λ q. is_off q p) ps ≡ list_all (none_at ps) (firsts p)
off_all p [] = sym (no_test (firsts p))
off_all p (q ∷ ps) =
    ap (λ (b : Bool). is_off q p && b) (off_all p ps)
    ∙ sym (both_tests (λ r. not (eq_by_cmp path_cmp q r)) (none_at ps) (firsts p))

pub apart_all : (p : Names) (ps : List Names) → list_all (are_apart p) ps ≡ (list_all (none_at ps) (firsts p) && list_all (λ q. not (is_above p q)) ps)
apart_all p ps =
    same_test (are_apart p) (λ q. is_off q p && not (is_above p q)) ps (apart_is p)
    ∙ both_tests (λ q. is_off q p) (λ q. not (is_above p q)) ps
    ∙ ap (λ (b : Bool). b && list_all (λ q. not (is_above p q)) ps) (off_all p ps)

none_mapped : {V W : Type 0} (f : V → W) (o : Option V) → is_none o ≡ is_none (option_map f o)
none_mapped f None = refl
none_mapped f (Some v) = refl

-- what the values down to p tell
pub none_along : {V W : Type 0} (f : V → W) (values : List (Option V)) (at : Names → Option W) (ps : List Names) (p : Names) → map (option_map f) values ≡ map at (firsts p)
    → ((q : Names) → is_none (at q) ≡ none_at ps q) → list_all is_none values ≡ list_all (none_at ps) (firsts p)
none_along f values at ps p along named =
    same_test is_none (λ v. is_none (option_map f v)) values (none_mapped f)
    ∙ sym (list_all-map is_none (option_map f) values)
    ∙ ap (list_all is_none) along
    ∙ list_all-map is_none at (firsts p)
    ∙ same_test (λ q. is_none (at q)) (none_at ps) (firsts p) named

-- and the value at p
pub none_here : {V W : Type 0} (f : V → W) (o : Option V) (w : Option W) (b : Bool) → option_map f o ≡ w → is_none w ≡ b → is_none o ≡ b
none_here f o w b here none = none_mapped f o ∙ ap is_none here ∙ none

pub both_of : (r a b : Bool) → a ≡ true → r ≡ b → r ≡ (a && b)
both_of r true b e is = is
both_of r false b e is = cc

pub first_of : (r a b : Bool) → a ≡ false → r ≡ a → r ≡ (a && b)
first_of r true b e is = cc
first_of r false b e is = is

-- ---- a path more

pub none_more : {V : Type 0} (b : Bool) (v : V) (o : Option V) (n : Bool) → is_none o ≡ n → is_none (cond b (Some v) o) ≡ (n && (not b && true))
none_more true v o n e = sym (and_none n)
none_more false v o n e = e ∙ sym (and_all n)

apart_pushed : (ps : List Names) (p : Names) → all_apart (ps ++ p ∷ []) ≡ (all_apart ps && list_all (are_apart p) ps)
apart_pushed [] p = refl
apart_pushed (q ∷ ps) p =
    ap₂ (λ (a b : Bool). a && b) (list_all-append (are_apart q) ps (p ∷ [])) (apart_pushed ps p)
    ∙ ap (λ (b : Bool). (list_all (are_apart q) ps && b) && (all_apart ps && list_all (are_apart p) ps)) (and_all (are_apart q p) ∙ apart_other q p)
    ∙ four (list_all (are_apart q) ps) (are_apart p q) (all_apart ps) (list_all (are_apart p) ps)

pub apart_more : (ps : List Names) (p : Names) (a b : Bool) → a ≡ all_apart ps → b ≡ list_all (are_apart p) ps → (a && b) ≡ all_apart (ps ++ p ∷ [])
apart_more ps p a b e f = ap₂ (λ (a b : Bool). a && b) e f ∙ sym (apart_pushed ps p)

-- ---- a step more

pub paths_pushed : (g : List Step) (s : Step) → all_paths (g ++ s ∷ []) ≡ all_paths g ++ paths_of s
paths_pushed [] s = append-nil (paths_of s)
paths_pushed (u ∷ g) s = ap (λ (ps : List Names). paths_of u ++ ps) (paths_pushed g s) ∙ sym (append_assoc (paths_of u) (all_paths g) (paths_of s))
