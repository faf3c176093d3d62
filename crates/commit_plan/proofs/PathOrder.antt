-- The order of paths, and what is below a path.
use Rattle.std.proofs.Common.{◌≡◌, ◌≢◌, ℕ, true, false, not, List, [], ◌∷◌, ◌++◌, refl, sym, ◌∙◌, ap, subst, append_assoc, Option, Some, None, IfSome, IsSome, is_some}
use Rattle.std.specs.Ordering.{is_gt, ordering_then, ordering_reverse, nat_cmp}
use Rattle.std.specs.declared.cmp.Ordering.{Ordering}
use Rattle.std.specs.declared.cmp.Ordering.TheVariants.{Less, Equal, Greater}
use Rattle.std.specs.Cmp.{tied_itself}
use Rattle.std.specs.Cmp.Lexicographic.{slice_cmp, nat_list_cmp_total}
use Rattle.std.specs.FinMap.{slice_cmp-IsAntisymmetric, nat_cmp-IsAntisymmetric}
use Rattle.std.specs.List.{slice_get}
use Rattle.std.specs.BTreeMap.{BTreeMap, get}
use Rattle.std.specs.BTreeMap.Range.{IsEntryInRange, IsRangeOf}
use Rattle.std.specs.declared.ops.Bound.TheVariants.{Excluded, Unbounded}
use Rattle.std.proofs.lemmas.List.{append-nil}
use Rattle.dired_text.specs.Paths.{Names, parent, path_cmp, rest_below}
use Rattle.dired_text.proofs.PathLemmas.{path_cmp-total, rest_below-append, rest_below-some}
use Rattle.tree_core.proofs.TreeLemmas.{last_of, parent-push}
use Rattle.edit_words.specs.Place.{IsAbove}

same_name : (x y : List ℕ) → slice_cmp nat_cmp x y ≡ Equal → x ≡ y
same_name x y e = slice_cmp-IsAntisymmetric nat_cmp-IsAntisymmetric x y e

-- what is below a path comes behind it,
pub below_behind : (p q : Names) → IsAbove p q → path_cmp p q ≡ Less
below_behind p q a = subst (λ (x : Names). path_cmp p x ≡ Less) (sym a.2) (go p a.0 a.1)
  where
    go : (p : Names) (n : List ℕ) (r : Names) → path_cmp p (p ++ n ∷ r) ≡ Less
    go [] n r = refl
    go (x ∷ p) n r = ap (λ (o : Ordering). ordering_then o (path_cmp p (p ++ n ∷ r))) (tied_itself nat_list_cmp_total x) ∙ go p n r

-- and all that stands between them is below it too.
pub between_below : (p t q : Names) → path_cmp p t ≡ Less → is_gt (path_cmp t q) ≡ false → IsAbove p q → IsAbove p t
between_below p t q less before above = go p t q above.0 above.1 above.2 less before
  where
    by_head : (x y : List ℕ) (a b c d : Ordering) → slice_cmp nat_cmp x y ≡ a → ordering_then a c ≡ Less → is_gt (ordering_then (slice_cmp nat_cmp y x) d) ≡ false → (x ≡ y) × (c ≡ Less) × (is_gt d ≡ false)
    by_head x y Less b c d e f g =
        let back : slice_cmp nat_cmp y x ≡ Greater = nat_list_cmp_total.antisymm y x ∙ ap ordering_reverse e in
        let no : is_gt (ordering_then Greater d) ≡ false = ap (λ (o : Ordering). is_gt (ordering_then o d)) (sym back) ∙ g in cc
    by_head x y Equal b c d e f g =
        let back : slice_cmp nat_cmp y x ≡ Equal = nat_list_cmp_total.antisymm y x ∙ ap ordering_reverse e in
        (same_name x y e, f, ap (λ (o : Ordering). is_gt (ordering_then o d)) (sym back) ∙ g)
    by_head x y Greater b c d e f g = cc

    go : (p t q : Names) (n : List ℕ) (r : Names) → q ≡ p ++ n ∷ r → path_cmp p t ≡ Less → is_gt (path_cmp t q) ≡ false → IsAbove p t
    go [] [] q n r e less before = cc
    go [] (y ∷ t) q n r e less before = (y, t, refl)
    go (x ∷ p) [] q n r e less before = cc
    go (x ∷ p) (y ∷ t) [] n r e less before = cc
    go (x ∷ p) (y ∷ t) (z ∷ q) n r e less before =
        let first : z ≡ x = cc in
        let rest : q ≡ p ++ n ∷ r = cc in
        let at : is_gt (ordering_then (slice_cmp nat_cmp y x) (path_cmp t q)) ≡ false = subst (λ (w : List ℕ). is_gt (ordering_then (slice_cmp nat_cmp y w) (path_cmp t q)) ≡ false) first before in
        let h = by_head x y (slice_cmp nat_cmp x y) Less (path_cmp p t) (path_cmp t q) refl less at in
        let more = go p t q n r rest h.1 h.2 in
        (more.0, more.1, ap (λ (w : List ℕ). w ∷ t) (sym h.0) ∙ ap (λ (l : Names). x ∷ l) more.2)

-- what is above a path is above all paths of its directory
pub above_in_dir : (s w a : Names) → s ≢ [] → parent s ≡ parent w → IsAbove a w → IsAbove a s
above_in_dir [] w a root dir above = absurd (root refl)
above_in_dir (y ∷ s) w a root dir above =
    let l = last_of above.0 above.1 in
    let k = last_of y s in
    let is : w ≡ (a ++ l.front) ++ l.last ∷ [] = above.2 ∙ ap (λ (x : Names). a ++ x) l.is ∙ sym (append_assoc a l.front (l.last ∷ [])) in
    let up : parent w ≡ a ++ l.front = ap parent is ∙ parent-push (a ++ l.front) l.last in
    let own : parent (y ∷ s) ≡ k.front = ap parent k.is ∙ parent-push k.front k.last in
    let front : k.front ≡ a ++ l.front = sym own ∙ dir ∙ up in
    let all : y ∷ s ≡ a ++ (l.front ++ k.last ∷ []) = k.is ∙ ap (λ (x : Names). x ++ k.last ∷ []) front ∙ append_assoc a l.front (k.last ∷ []) in
    let c = push_cons l.front k.last in
    (c.0, c.1, all ∙ ap (λ (x : Names). a ++ x) c.2)
  where
    push_cons : (f : Names) (n : List ℕ) → (k : List ℕ) × (r : Names) × (f ++ n ∷ [] ≡ k ∷ r)
    push_cons [] n = (n, [], refl)
    push_cons (x ∷ f) n = (x, f ++ n ∷ [], refl)

-- ---- the first key behind a path

pub below_from : (p q : Names) → path_cmp p q ≡ Less → is_some (rest_below p q) ≡ true → IsAbove p q
below_from p q less some = by_rest (rest_below p q) refl some
  where
    by_rest : (o : Option Names) → rest_below p q ≡ o → is_some o ≡ true → IsAbove p q
    by_rest None e h = cc
    by_rest (Some []) e h =
        let same : q ≡ p = rest_below-some p q [] e ∙ append-nil p in
        let tie : path_cmp p q ≡ Equal = ap (path_cmp p) same ∙ tied_itself path_cmp-total p in
        let both : Less ≡ Equal = sym less ∙ tie in cc
    by_rest (Some (n ∷ r)) e h = (n, r, rest_below-some p q (n ∷ r) e)

pub below_some : (p q : Names) → IsAbove p q → is_some (rest_below p q) ≡ true
below_some p q a = ap is_some (ap (rest_below p) a.2 ∙ rest_below-append p (a.0 ∷ a.1))

module _ (m : BTreeMap Names ℕ) (p : Names) (r : List (Names × ℕ)) (range : IsRangeOf path_cmp (Excluded p) Unbounded m r) where
  pub first_is : (e : Names × ℕ) (rest : List (Names × ℕ)) → r ≡ e ∷ rest → (path_cmp p e.0 ≡ Less) × (get path_cmp m e.0 ≡ Some e.1)
  first_is e rest is =
      let at = subst (λ (l : List (Names × ℕ)). IfSome (slice_get l 0) (IsEntryInRange path_cmp (Excluded p) Unbounded m)) is range.1 in
      (at.0.0, at.1)

  pub first_below : (e : Names × ℕ) (rest : List (Names × ℕ)) → r ≡ e ∷ rest → (q : Names) (k : ℕ) → IsAbove p q → get path_cmp m q ≡ Some k → IsAbove p e.0
  first_below e rest is q k above found =
      let some : IsSome (get path_cmp m q) = subst (λ (o : Option ℕ). IsSome o) (sym found) refl in
      let le = subst (λ (l : List (Names × ℕ)). IfSome (slice_get l 0) (λ (x : Names × ℕ). is_gt (path_cmp x.0 q) ≡ false)) is (range.2 q (below_behind p q above, tt) some) in
      between_below p e.0 q (first_is e rest is).0 le above

  pub first_not_below : (e : Names × ℕ) (rest : List (Names × ℕ)) → r ≡ e ∷ rest → is_some (rest_below p e.0) ≡ false → (q : Names) → IsAbove p q → get path_cmp m q ≡ None
  first_not_below e rest is not q above = by_found (get path_cmp m q) refl
    where
      by_found : (o : Option ℕ) → get path_cmp m q ≡ o → o ≡ None
      by_found None found = refl
      by_found (Some k) found = let both : true ≡ false = sym (below_some p e.0 (first_below e rest is q k above found)) ∙ not in absurd cc

  pub none_behind : r ≡ [] → (q : Names) → IsAbove p q → get path_cmp m q ≡ None
  none_behind is q above = range.5 is q (below_behind p q above, tt)
