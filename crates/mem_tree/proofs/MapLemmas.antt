-- An ordered map in memory, whose keys are read as others, as a finite map.
use Rattle.std.proofs.Common.{◌≡◌, Bool, true, false, cond, ◌&&◌, List, [], ◌∷◌, ◌++◌, map, refl, sym, ◌∙◌, ap, subst, T, Option, Some, None}
use Rattle.std.proofs.lemmas.Bool.{cond-true, cond-false}
use Rattle.std.specs.FinMap.{FinMap, find, is_sorted, IsAntisymmetric, get, insert, remove, entries, from_entries, from_sorted, same_map, get-from_entries, get-from_sorted, entries-from_sorted, get-insert, get-remove, from_entries_push}
use Rattle.std.specs.FinMap.Entries.{below_all, find_tied}
use Rattle.std.specs.List.{AllByRecursion}
use Rattle.std.specs.List.Sorted.{IsStrictlySortedBy}
use Rattle.std.specs.declared.cmp.Ordering.{Ordering}
use Rattle.std.specs.declared.cmp.Ordering.TheVariants.{Less, Equal, Greater}
use Rattle.std.specs.Ordering.{eq_by_cmp, is_lt, is_eq, ordering_reverse}
use Rattle.std.specs.Cmp.{IsTotalOrder, tied_itself}
use Rattle.std.specs.BTreeMap.{BTreeMap, UpdatesBy}
use Rattle.std.specs.Map.{lookup, keys_of, KeepsOthers}
use Rattle.std.proofs.lemmas.Map.Keys.{sorted_head, sorted_tail}

pub both_true : (a b : Bool) → a ≡ true → b ≡ true → (a && b) ≡ true
both_true true b p q = q
both_true false b p q = cc

pub parts_true : (a b : Bool) → (a && b) ≡ true → (a ≡ true) × (b ≡ true)
parts_true true b t = (refl, t)
parts_true false b t = cc

pub less_of : (r : Ordering) → is_lt r ≡ true → r ≡ Less
less_of Less t = refl
less_of Equal t = cc
less_of Greater t = cc

pub equal_of : (r : Ordering) → is_eq r ≡ true → r ≡ Equal
equal_of Less t = cc
equal_of Equal t = refl
equal_of Greater t = cc

-- ---- lists of entries in order

module _ {K X : Type 0} {R : K → K → Ordering} (o : IsTotalOrder R) where
  -- what is below a list in order is not found in it
  pub find_under : (k : K) (es : List (K × X)) → below_all R k es ≡ true → find R k es ≡ None
  find_under k [] h = refl
  find_under k (e ∷ es) h =
      let parts = parts_true (is_lt (R k e.0)) (below_all R k es) h in
      ap (λ r. cond (is_eq r) (Some e.1) (find R k es)) (less_of _ parts.0) ∙ find_under k es parts.1

  pub below_trans : (x y : K) (es : List (K × X)) → R x y ≡ Less → below_all R y es ≡ true → below_all R x es ≡ true
  below_trans x y [] p h = refl
  below_trans x y (e ∷ es) p h =
      let parts = parts_true (is_lt (R y e.0)) (below_all R y es) h in
      both_true _ _ (ap is_lt (o.trans x y e.0 p (less_of _ parts.0))) (below_trans x y es p parts.1)

  -- what ties with the first is not found in the others
  pub find_behind : (k : K) (e : K × X) (es : List (K × X)) → below_all R e.0 es ≡ true → eq_by_cmp R k e.0 ≡ true → find R k es ≡ None
  find_behind k e es h t = sym (find_tied R o k e.0 (equal_of _ t) es) ∙ find_under e.0 es h

  -- what is found in the others is found in all
  pub find_tail : (e : K × X) (es : List (K × X)) (k : K) (v : X) → below_all R e.0 es ≡ true → find R k es ≡ Some v → find R k (e ∷ es) ≡ Some v
  find_tail e es k v h found = by (eq_by_cmp R k e.0) refl
    where
      by : (b : Bool) → eq_by_cmp R k e.0 ≡ b → cond (eq_by_cmp R k e.0) (Some e.1) (find R k es) ≡ Some v
      by true t = let none : find R k es ≡ None = find_behind k e es h t in cc
      by false t = cond-false _ _ _ t ∙ found

  pub find_head : (e : K × X) (es : List (K × X)) → find R e.0 (e ∷ es) ≡ Some e.1
  find_head e es = ap (λ r. cond (is_eq r) (Some e.1) (find R e.0 es)) (tied_itself o e.0)

  -- each entry of a list in order is found
  pub all_entries : (P : K × X → Type 0) (es : List (K × X)) → is_sorted R es ≡ true → ((e : K × X) → find R e.0 es ≡ Some e.1 → P e) → AllByRecursion P es
  all_entries P [] s each = tt
  all_entries P (e ∷ es) s each =
      let parts = parts_true (below_all R e.0 es) (is_sorted R es) s in
      (each e (find_head e es), all_entries P es parts.1 (λ f found. each f (find_tail e es f.0 f.1 parts.0 found)))

  -- what comes before an entry of a list in order doesn't tie with it
  pub find_before : (xs : List (K × X)) (e : K × X) (ys : List (K × X)) → is_sorted R (xs ++ e ∷ ys) ≡ true → find R e.0 xs ≡ None
  find_before [] e ys s = refl
  find_before (x ∷ xs) e ys s =
      let parts = parts_true (below_all R x.0 (xs ++ e ∷ ys)) (is_sorted R (xs ++ e ∷ ys)) s in
      ap (λ r. cond (is_eq r) (Some x.1) (find R e.0 xs)) (o.antisymm e.0 x.0 ∙ ap ordering_reverse (before xs parts.0))
      ∙ find_before xs e ys parts.1
    where
      before : (xs : List (K × X)) → below_all R x.0 (xs ++ e ∷ ys) ≡ true → R x.0 e.0 ≡ Less
      before [] h = less_of _ (parts_true (is_lt (R x.0 e.0)) (below_all R x.0 ys) h).0
      before (y ∷ xs) h = before xs (parts_true (is_lt (R x.0 y.0)) (below_all R x.0 (xs ++ e ∷ ys)) h).1

  module _ (exact : IsAntisymmetric R) where
    -- entries in order are those of their finite map
    pub entries-made : (es : List (K × X)) → is_sorted R es ≡ true → entries (from_entries {R = R} es) ≡ es
    entries-made es s =
        let t = subst T (sym s) tt in
        ap entries (same_map o exact (from_entries es) (from_sorted es) (λ q. get-from_entries o es q ∙ sym (get-from_sorted R es q t)))
        ∙ entries-from_sorted R es t

    pub same_at : (m n : FinMap R X) → ((q : K) → get m q ≡ get n q) → m ≡ n
    same_at m n same = same_map o exact m n same

    -- an entry more, in order
    pub made-push : (xs : List (K × X)) (e : K × X) (ys : List (K × X)) → is_sorted R (xs ++ e ∷ ys) ≡ true → from_entries {R = R} (xs ++ e ∷ []) ≡ insert (from_entries xs) e.0 e.1
    made-push xs e ys s = from_entries_push o exact xs e.0 e.1 (find_before xs e ys s)

-- ---- the map

-- keys in the order of what they are read as
abbrev pub cmp_read : {K B : Type 0} → (K → B) → (B → B → Ordering) → K → K → Ordering
cmp_read read R x y = R (read x) (read y)

module _ {K B X : Type 0} (read : K → B) {R : B → B → Ordering} (o : IsTotalOrder R) (exact : IsAntisymmetric R) where
  abbrev pub shown : List (K × X) → List (B × X)
  shown es = map (λ (e : K × X). (read e.0, e.1)) es

  pub find-shown : (es : List (K × X)) (q : B) → find R q (shown es) ≡ lookup (λ k. is_eq (R q (read k))) es
  find-shown [] q = refl
  find-shown (e ∷ es) q = ap (λ (r : Option X). cond (eq_by_cmp R q (read e.0)) (Some e.1) r) (find-shown es q)

  pub get-shown : (es : List (K × X)) (q : B) → get (from_entries {R = R} (shown es)) q ≡ lookup (λ k. is_eq (R q (read k))) es
  get-shown es q = get-from_entries o (shown es) q ∙ find-shown es q

  pub get-updated : (m n : BTreeMap K X) (p : B) (w : Option X) → UpdatesBy (cmp_read read R) (λ k. R p (read k)) m n w
      → (q : B) → get (from_entries {R = R} (shown n.entries)) q ≡ cond (eq_by_cmp R q p) w (get (from_entries {R = R} (shown m.entries)) q)
  unfolding KeepsOthers
  get-updated m n p w u q = by (eq_by_cmp R q p) refl
    where
      by : (b : Bool) → eq_by_cmp R q p ≡ b → get (from_entries {R = R} (shown n.entries)) q ≡ cond (eq_by_cmp R q p) w (get (from_entries {R = R} (shown m.entries)) q)
      by true t =
          get-shown n.entries q ∙ ap (λ x. lookup (λ k. is_eq (R x (read k))) n.entries) (exact q p (equal_of _ t)) ∙ u.1
          ∙ sym (cond-true _ w _ t)
      by false f =
          get-shown n.entries q
          ∙ u.3 (λ k. is_eq (R q (read k))) (λ x y t. ap is_eq (o.congr q (read x) (read y) (equal_of _ t)))
          (λ k t. apart k t (eq_by_cmp R q (read k)) refl)
          ∙ sym (get-shown m.entries q) ∙ sym (cond-false _ w _ f)
        where
          apart : (k : K) → is_eq (R p (read k)) ≡ true → (b : Bool) → eq_by_cmp R q (read k) ≡ b → eq_by_cmp R q (read k) ≡ false
          apart k t true e =
              let one : q ≡ read k = exact q (read k) (equal_of _ e) in
              let two : p ≡ read k = exact p (read k) (equal_of _ t) in
              let same : eq_by_cmp R q p ≡ true = ap (λ x. eq_by_cmp R q x) (two ∙ sym one) ∙ ap is_eq (tied_itself o q) in cc
          apart k t false e = e

  pub inserted : (m n : BTreeMap K X) (p : B) (v : X) → UpdatesBy (cmp_read read R) (λ k. R p (read k)) m n (Some v) → from_entries {R = R} (shown n.entries) ≡ insert (from_entries (shown m.entries)) p v
  inserted m n p v u = same_map o exact _ _ (λ q. get-updated m n p (Some v) u q ∙ sym (get-insert o (from_entries (shown m.entries)) p v q))

  pub removed : (m n : BTreeMap K X) (p : B) → UpdatesBy (cmp_read read R) (λ k. R p (read k)) m n None → from_entries {R = R} (shown n.entries) ≡ remove (from_entries (shown m.entries)) p
  removed m n p u = same_map o exact _ _ (λ q. get-updated m n p None u q ∙ sym (get-remove o (from_entries (shown m.entries)) p q))

  below-shown : (k : K) (es : List (K × X)) → AllByRecursion (λ y. R (read k) (read y) ≡ Less) (keys_of es) → below_all R (read k) (shown es) ≡ true
  below-shown k [] h = refl
  below-shown k (e ∷ es) h = both_true _ _ (ap is_lt h.0) (below-shown k es h.1)

  pub sorted-shown : (es : List (K × X)) → IsStrictlySortedBy (cmp_read read R) (keys_of es) → is_sorted R (shown es) ≡ true
  sorted-shown [] h = refl
  sorted-shown (e ∷ es) h = both_true _ _ (below-shown e.0 es (sorted_head (cmp_read read R) e.0 (keys_of es) h)) (sorted-shown es (sorted_tail (cmp_read read R) e.0 (keys_of es) h))

  pub entries-shown : (es : List (K × X)) → is_sorted R (shown es) ≡ true → entries (from_entries {R = R} (shown es)) ≡ shown es
  entries-shown es s = entries-made o exact (shown es) s

-- keys that are read as they are
pub shown_same : {K X : Type 0} (es : List (K × X)) → map (λ (e : K × X). (e.0, e.1)) es ≡ es
shown_same [] = refl
shown_same (e ∷ es) = ap (λ l. e ∷ l) (shown_same es)
