-- Elements of lists, names that are the same, and the first names of a path.
use Rattle.std.proofs.Common.{◌≡◌, ◌≢◌, ◌⊎◌, inl, inr, ◌<◌, ℕ, zero, suc, true, false, List, [], ◌∷◌, ◌++◌, length, map, set, slice_get, Some, eqb, refl, sym, ◌∙◌, ap, arith}
use Rattle.std.proofs.lemmas.Bool.{cases_Bool, false≢true}
use Rattle.std.proofs.lemmas.Bool.Decides.{eqb_tells}
use Rattle.std.proofs.lemmas.Slice.Eq.{bytes_eq-Decides}
use Rattle.std.specs.Str.{bytes_eq}
use Rattle.std.specs.declared.cmp.Ordering.{Ordering}
use Rattle.std.specs.declared.cmp.Ordering.TheVariants.{Less, Equal, Greater}
use Rattle.std.specs.Ordering.{is_eq, eq_by_cmp, nat_cmp}
use Rattle.std.specs.Cmp.{tied_itself}
use Rattle.std.specs.Cmp.Lexicographic.{slice_cmp, nat_list_cmp_total}
use Rattle.std.specs.FinMap.{slice_cmp-IsAntisymmetric, nat_cmp-IsAntisymmetric}
use Rattle.dired_text.specs.Paths.{Names, path_cmp}
use Rattle.dired_text.proofs.PathLemmas.{path_cmp-total, path_cmp-exact}
use Rattle.path_map.specs.Walks.{firsts}

pub got_set : {X : Type 0} (xs : List X) (i : ℕ) (y : X) → i < length xs → slice_get (set xs i y) i ≡ Some y
got_set [] i y less = absurd (omega (arith, less))
got_set (x ∷ xs) zero y less = refl
got_set (x ∷ xs) (suc i) y less = got_set xs i y (omega (arith, less))

pub got_beside : {X : Type 0} (xs : List X) (at i : ℕ) (y : X) → i ≢ at → slice_get (set xs at y) i ≡ slice_get xs i
got_beside [] at i y other = refl
got_beside (x ∷ xs) zero zero y other = absurd (other refl)
got_beside (x ∷ xs) zero (suc i) y other = refl
got_beside (x ∷ xs) (suc at) zero y other = refl
got_beside (x ∷ xs) (suc at) (suc i) y other = got_beside xs at i y (λ e. other (ap (λ (k : ℕ). suc k) e))

-- ---- what is the same

tied : (o : Ordering) → is_eq o ≡ true → o ≡ Equal
tied Less e = cc
tied Equal e = refl
tied Greater e = cc

pub same_path : (p q : Names) → eq_by_cmp path_cmp p q ≡ true → p ≡ q
same_path p q e = path_cmp-exact p q (tied (path_cmp p q) e)

pub path_itself : (p : Names) → eq_by_cmp path_cmp p p ≡ true
path_itself p = ap is_eq (tied_itself path_cmp-total p)

pub same_name : (n m : List ℕ) → is_eq (slice_cmp nat_cmp n m) ≡ true → n ≡ m
same_name n m e = slice_cmp-IsAntisymmetric nat_cmp-IsAntisymmetric n m (tied (slice_cmp nat_cmp n m) e)

pub name_itself : (n : List ℕ) → is_eq (slice_cmp nat_cmp n n) ≡ true
name_itself n = ap is_eq (tied_itself nat_list_cmp_total n)

-- whether it is this name below this number
pub same_edge : (i at : ℕ) (n name : List ℕ) → ((i ≡ at) × (n ≡ name)) ⊎ ((i ≡ at) × (n ≡ name) → ⊥)
same_edge i at n name = go (eqb_tells i at) (cases_Bool (bytes_eq n name))
  where
    go : ((eqb i at ≡ true) × (i ≡ at)) ⊎ ((eqb i at ≡ false) × (i ≢ at)) → (bytes_eq n name ≡ true) ⊎ (bytes_eq n name ≡ false) → ((i ≡ at) × (n ≡ name)) ⊎ ((i ≡ at) × (n ≡ name) → ⊥)
    go (inl a) (inl b) = inl (a.1, (bytes_eq-Decides n name).0 b)
    go (inl a) (inr b) = inr (λ e. false≢true (sym b ∙ (bytes_eq-Decides n name).1 e.1))
    go (inr a) b = inr (λ e. a.1 e.0)

-- ---- the first names of a path

pub firsts_pushed : (p : Names) (n : List ℕ) → firsts (p ++ n ∷ []) ≡ firsts p ++ (p ++ n ∷ []) ∷ []
firsts_pushed [] n = refl
firsts_pushed (m ∷ p) n =
    ap (λ (qs : List Names). [] ∷ map (λ (q : Names). m ∷ q) qs) (firsts_pushed p n) ∙ ap (λ (qs : List Names). [] ∷ qs) (map_pushed (firsts p) (p ++ n ∷ []))
  where
    map_pushed : (qs : List Names) (q : Names) → map (λ (q : Names). m ∷ q) (qs ++ q ∷ []) ≡ map (λ (q : Names). m ∷ q) qs ++ (m ∷ q) ∷ []
    map_pushed [] q = refl
    map_pushed (r ∷ qs) q = ap (λ (rs : List Names). (m ∷ r) ∷ rs) (map_pushed qs q)

-- what is behind all of a list is some first part and a last element, or nothing
pub last_of : {X : Type 0} (xs : List X) → (xs ≡ []) ⊎ ((ys : List X) × (y : X) × (xs ≡ ys ++ y ∷ []))
last_of [] = inl refl
last_of (x ∷ xs) = go (last_of xs)
  where
    go : (xs ≡ []) ⊎ ((ys : List _) × (y : _) × (xs ≡ ys ++ y ∷ [])) → (x ∷ xs ≡ []) ⊎ ((ys : List _) × (y : _) × (x ∷ xs ≡ ys ++ y ∷ []))
    go (inl e) = inr ([], x, ap (λ (l : List _). x ∷ l) e)
    go (inr s) = inr (x ∷ s.0, s.1, ap (λ (l : List _). x ∷ l) s.2)
