-- Paths in their order.
use Rattle.std.proofs.Common.{◌≡◌, ℕ, ◌+◌, ◌≤◌, Bool, true, false, List, [], ◌∷◌, ◌++◌, map, length, append-nil, length-append, refl, sym, ◌∙◌, ap, arith, Option, Some, None}
use Rattle.std.proofs.lemmas.Slice.Eq.{bytes_eq-Decides}
use Rattle.std.specs.Str.{bytes_eq}
use Rattle.std.specs.declared.cmp.Ordering.{Ordering}
use Rattle.std.specs.declared.cmp.Ordering.TheVariants.{Less, Equal, Greater}
use Rattle.std.specs.Ordering.{nat_cmp, ordering_then}
use Rattle.std.specs.Cmp.{tied_itself as total_tied_itself}
use Rattle.std.specs.Cmp.Lexicographic.{slice_cmp, nat_list_cmp_total}
use Rattle.std.specs.FinMap.{slice_cmp-IsAntisymmetric, nat_cmp-IsAntisymmetric}
use Rattle.std.specs.List.{AllByRecursion}
use Rattle.std.specs.List.Sorted.{IsStrictlySortedBy}
use Rattle.dired_text.specs.Paths.{Names, path_cmp, rest_below, slashed, path_bytes}
use Rattle.dired_text.proofs.PathLemmas.{rest_below-append}
use Rattle.tree_core.specs.Fields.{RiseStrictly}
use Rattle.find_listing.specs.Walks.{child, children}

-- the first stands before the second and all below it
pub record Before (p q : Names) : Type 0 where
  pub less : path_cmp p q ≡ Less
  pub apart : rest_below p q ≡ None

-- each stands before the later ones, with all below it
abbrev pub AreApart : List Names → Type 0
AreApart [] = Unit {0}
AreApart (p ∷ ps) = AllByRecursion (Before p) ps × AreApart ps

-- ---- what is left of a path

abbrev pub behind : Names → Option Names → Option Names
behind s None = None
behind s (Some r) = rest_below s r

pub rest_below-front : (p s q : Names) → rest_below (p ++ s) q ≡ behind s (rest_below p q)
rest_below-front [] s q = refl
rest_below-front (x ∷ p) s [] = refl
rest_below-front (x ∷ p) s (y ∷ q) = go (bytes_eq x y) refl (rest_below-front p s q)
  where
    go : (b : Bool) → bytes_eq x y ≡ b → rest_below (p ++ s) q ≡ behind s (rest_below p q) → rest_below ((x ∷ p) ++ s) (y ∷ q) ≡ behind s (rest_below (x ∷ p) (y ∷ q))
    go true e later = rw e later
    go false e later = rw e refl

-- ---- the order

pub before_below : (p q r s : Names) → path_cmp p q ≡ Less → rest_below p q ≡ None → path_cmp (p ++ r) (q ++ s) ≡ Less
before_below [] q r s less apart = cc
before_below (x ∷ p) [] r s less apart = cc
before_below (x ∷ p) (y ∷ q) r s less apart = go (slice_cmp nat_cmp x y) refl less apart (before_below p q r s)
  where
    go : (o : Ordering) → slice_cmp nat_cmp x y ≡ o → ordering_then (slice_cmp nat_cmp x y) (path_cmp p q) ≡ Less → rest_below (x ∷ p) (y ∷ q) ≡ None
        → (path_cmp p q ≡ Less → rest_below p q ≡ None → path_cmp (p ++ r) (q ++ s) ≡ Less)
        → ordering_then (slice_cmp nat_cmp x y) (path_cmp (p ++ r) (q ++ s)) ≡ Less
    go Less is below none later = rw is refl
    go Equal is below none later =
        let same : x ≡ y = slice_cmp-IsAntisymmetric nat_cmp-IsAntisymmetric x y is in
        let tied : bytes_eq x y ≡ true = (bytes_eq-Decides x y).1 same in
        rw is (later (rw is at below) (rw tied at none))
    go Greater is below none later = let bad : Greater ≡ Less = rw is at below in cc

pub front_less : (p : Names) (n : List ℕ) (r : Names) → path_cmp p (p ++ n ∷ r) ≡ Less
front_less [] n r = refl
front_less (x ∷ p) n r = ap (λ (o : Ordering). ordering_then o (path_cmp p (p ++ n ∷ r))) (total_tied_itself nat_list_cmp_total x) ∙ front_less p n r

pub path_cmp-front : (p a b : Names) → path_cmp (p ++ a) (p ++ b) ≡ path_cmp a b
path_cmp-front [] a b = refl
path_cmp-front (x ∷ p) a b = ap (λ (o : Ordering). ordering_then o (path_cmp (p ++ a) (p ++ b))) (total_tied_itself nat_list_cmp_total x) ∙ path_cmp-front p a b

-- ---- siblings

bytes_apart : (n m : List ℕ) → slice_cmp nat_cmp n m ≡ Less → bytes_eq n m ≡ false
bytes_apart n m less = go (bytes_eq n m) refl
  where
    go : (b : Bool) → bytes_eq n m ≡ b → b ≡ false
    go false e = refl
    go true e =
        let same : n ≡ m = (bytes_eq-Decides n m).0 e in
        let tied : slice_cmp nat_cmp n m ≡ Equal = ap (slice_cmp nat_cmp n) (sym same) ∙ total_tied_itself nat_list_cmp_total n in
        let bad : Less ≡ Equal = sym less ∙ tied in cc

siblings : (p : Names) (n m : List ℕ) → slice_cmp nat_cmp n m ≡ Less → Before (child p n) (child p m)
siblings p n m less = record {
  less = path_cmp-front p (n ∷ []) (m ∷ []) ∙ ap (λ (o : Ordering). ordering_then o Equal) less;
  apart = rest_below-front p (n ∷ []) (child p m) ∙ ap (behind (n ∷ [])) (rest_below-append p (m ∷ [])) ∙ rw (bytes_apart n m less) refl;
}

later_siblings : (p : Names) (n : List ℕ) (names : List (List ℕ)) → AllByRecursion (λ m. slice_cmp nat_cmp n m ≡ Less) names → AllByRecursion (Before (child p n)) (children p names)
later_siblings p n [] all = tt
later_siblings p n (m ∷ names) all = (siblings p n m all.0, later_siblings p n names all.1)

-- the paths of names that rise
pub children_apart : (p : Names) (names : List (List ℕ)) → RiseStrictly names → AreApart (children p names)
unfolding IsStrictlySortedBy
children_apart p [] rise = tt
children_apart p (n ∷ names) rise = (later_siblings p n names rise.0, children_apart p names rise.1)

-- what is below the first stands before the second, too
pub below_before : (p r q : Names) → Before p q → Before (p ++ r) q
below_before p r q before = record {
  less = ap (path_cmp (p ++ r)) (sym (append-nil q)) ∙ before_below p q r [] before.less before.apart;
  apart = rest_below-front p r q ∙ ap (behind r) before.apart;
}

-- ---- lists

pub all_append : {X : Type 0} (P : X → Type 0) (xs ys : List X) → AllByRecursion P xs → AllByRecursion P ys → AllByRecursion P (xs ++ ys)
all_append P [] ys all more = more
all_append P (x ∷ xs) ys all more = (all.0, all_append P xs ys all.1 more)

pub all_map : {X Y : Type 0} (P : Y → Type 0) (f : X → Y) (xs : List X) → ((x : X) → P (f x)) → AllByRecursion P (map f xs)
all_map P f [] each = tt
all_map P f (x ∷ xs) each = (each x, all_map P f xs each)

pub all_by : {X : Type 0} (P Q : X → Type 0) (xs : List X) → ((x : X) → P x → Q x) → AllByRecursion P xs → AllByRecursion Q xs
all_by P Q [] each all = tt
all_by P Q (x ∷ xs) each all = (each x all.0, all_by P Q xs each all.1)

child_before : (p q : Names) (names : List (List ℕ)) → Before p q → (n : List ℕ) → Before (child p n) q
child_before p q names before n = below_before p (n ∷ []) q before

children_before : (p : Names) (names : List (List ℕ)) (rest : List Names) → AllByRecursion (Before p) rest → AreApart rest → AreApart (children p names) → AreApart (children p names ++ rest)
children_before p [] rest before apart own = apart
children_before p (n ∷ names) rest before apart own = (
  all_append (Before (child p n)) (children p names) rest own.0 (all_by (Before p) (Before (child p n)) rest (λ q b. below_before p (n ∷ []) q b) before),
  children_before p names rest before apart own.1,
)

-- the names in a directory in place of the directory
pub entered_apart : (p : Names) (names : List (List ℕ)) (rest : List Names) → RiseStrictly names → AreApart (p ∷ rest) → AreApart (children p names ++ rest)
entered_apart p names rest rise apart = children_before p names rest apart.0 apart.1 (children_apart p names rise)

-- ---- bytes

slashed_longer : (p r : Names) → length (slashed p) ≤ length (slashed (p ++ r))
slashed_longer [] r = omega arith
slashed_longer (n ∷ p) r =
    let later : length (slashed p) ≤ length (slashed (p ++ r)) = slashed_longer p r in
    omega (arith, length-append n (slashed p), length-append n (slashed (p ++ r)))

pub longer_below : (p r : Names) → path_bytes p ≤ path_bytes (p ++ r)
longer_below [] r = omega arith
longer_below (n ∷ p) r =
    let later : length (slashed p) ≤ length (slashed (p ++ r)) = slashed_longer p r in
    omega (arith, length-append n (slashed p), length-append n (slashed (p ++ r)))
