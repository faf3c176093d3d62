-- What the words on paths compute to.
use Rattle.std.proofs.Common.{◌≡◌, inl, inr, ℕ, ◌-◌, true, List, [], ◌∷◌, ◌++◌, length, refl, sym, ◌∙◌, ap, arith, append_assoc, length-append, Some, None}
use Rattle.std.proofs.lemmas.List.{append-nil, take_at}
use Rattle.std.proofs.lemmas.Bool.{cases_Bool}
use Rattle.std.proofs.lemmas.Option.{same_Some}
use Rattle.std.specs.Bool.{Decides}
use Rattle.std.proofs.lemmas.Slice.Eq.{bytes_eq-Decides}
use Rattle.std.specs.Str.{bytes_eq}
use Rattle.std.specs.declared.cmp.Ordering.TheVariants.{Less, Equal, Greater}
use Rattle.std.specs.Ordering.{is_eq, eq_by_cmp}
use Rattle.std.specs.Cmp.{IsTotalOrder, tied_itself as total_tied_itself}
use Rattle.std.specs.Cmp.Lexicographic.{nat_list_cmp_total, lists_total}
use Rattle.std.specs.FinMap.{IsAntisymmetric, slice_cmp-IsAntisymmetric, nat_cmp-IsAntisymmetric}
use Rattle.dired_text.specs.Paths.{Names, path_cmp, rest_below, parent, slash, slashed}

pub path_cmp-total : IsTotalOrder path_cmp
path_cmp-total = lists_total nat_list_cmp_total

pub path_cmp-exact : IsAntisymmetric path_cmp
path_cmp-exact = slice_cmp-IsAntisymmetric (slice_cmp-IsAntisymmetric nat_cmp-IsAntisymmetric)

-- a path lies below its own front
pub rest_below-append : (p r : Names) → rest_below p (p ++ r) ≡ Some r
rest_below-append [] r = refl
rest_below-append (x ∷ p) r = rw ((bytes_eq-Decides x x).1 refl) (rest_below-append p r)

-- and only below that
pub rest_below-some : (p q r : Names) → rest_below p q ≡ Some r → q ≡ p ++ r
rest_below-some [] q r e = cc
rest_below-some (x ∷ p) [] r e = cc
rest_below-some (x ∷ p) (y ∷ q) r e =
    elim (cases_Bool (bytes_eq x y)) [
      | inl same ↦ let rest : rest_below p q ≡ Some r = rw same at e in
          let heads : x ≡ y = (bytes_eq-Decides x y).0 same in
          let tails : q ≡ p ++ r = rest_below-some p q r rest in cc
      | inr other ↦ let none : None ≡ Some r = rw other at e in cc
    ]

pub rest_below-same : (p : Names) → rest_below p p ≡ Some []
rest_below-same [] = refl
rest_below-same (x ∷ p) = rw ((bytes_eq-Decides x x).1 refl) (rest_below-same p)

-- the order of paths ties only equal paths
pub tied : (p q : Names) → is_eq (path_cmp p q) ≡ true → p ≡ q
tied p q t = elim (path_cmp p q) as (λ o. path_cmp p q ≡ o → is_eq o ≡ true → p ≡ q) [
  | Less ↦ λ e t. cc
  | Equal ↦ λ e t. path_cmp-exact p q e
  | Greater ↦ λ e t. cc
] refl t

pub tied_itself : (p : Names) → is_eq (path_cmp p p) ≡ true
tied_itself p = ap is_eq (total_tied_itself path_cmp-total p)

pub path_decides : (p q : Names) → Decides (eq_by_cmp path_cmp p q) (p ≡ q)
path_decides p q = (tied p q, λ same. ap (λ (l : Names). is_eq (path_cmp p l)) (sym same) ∙ tied_itself p)

pub append_cancel : (p r s : Names) → p ++ r ≡ p ++ s → r ≡ s
append_cancel p r s same = same_Some r s (sym (rest_below-append p r) ∙ ap (rest_below p) same ∙ rest_below-append p s)

-- one name more
pub slashed-push : (p : Names) (n : List ℕ) → slashed (p ++ n ∷ []) ≡ slashed p ++ (slash ∷ n)
slashed-push [] n = append-nil (slash ∷ n)
slashed-push (m ∷ p) n = ap (λ (l : List ℕ). slash ∷ m ++ l) (slashed-push p n) ∙ sym (append_assoc (slash ∷ m) (slashed p) (slash ∷ n))

-- the parent of a path with one name more
pub parent-push : (p : Names) (n : List ℕ) → parent (p ++ n ∷ []) ≡ p
parent-push p n = take_at p (n ∷ []) (length (p ++ n ∷ []) - 1) (omega (arith, length-append p (n ∷ [])))
