-- A map in memory as a finite map.
use Rattle.std.proofs.Common.{◌≡◌, Bool, true, false, cond, ◌&&◌, T, List, [], ◌∷◌, refl, sym, ◌∙◌, ap, subst, Option, Some}
use Rattle.std.specs.FinMap as fin
use Rattle.std.specs.FinMap.{find, is_sorted, IsAntisymmetric}
use Rattle.std.specs.FinMap.Entries.{below_all}
use Rattle.std.specs.List.{AllByRecursion}
use Rattle.std.specs.List.Sorted.{IsStrictlySortedBy}
use Rattle.std.specs.declared.cmp.Ordering.{Ordering}
use Rattle.std.specs.declared.cmp.Ordering.TheVariants.{Less}
use Rattle.std.specs.Ordering.{eq_by_cmp, is_lt}
use Rattle.std.specs.Cmp.{IsTotalOrder, eq_by_cmp_equiv}
use Rattle.std.specs.BTreeMap.{BTreeMap, Updates, is_at}
use Rattle.std.specs.Map.{lookup, keys_of}
use Rattle.std.proofs.lemmas.Map.Keys.{sorted_head, sorted_tail}

both : (a b : Bool) → T a → T b → T (a && b)
both true b p q = q
both false b p q = absurd p

module _ {K X : Type 0} {R : K → K → Ordering} (o : IsTotalOrder R) (exact : IsAntisymmetric R) where
  pub find-lookup : (es : List (K × X)) (q : K) → find R q es ≡ lookup (is_at (R q)) es
  find-lookup [] q = refl
  find-lookup (e ∷ es) q = ap (λ (r : Option X). cond (eq_by_cmp R q e.0) (Some e.1) r) (find-lookup es q)

  pub get-lookup : (b : BTreeMap K X) (q : K) → fin.get (fin.from_entries {R = R} b.entries) q ≡ lookup (is_at (R q)) b.entries
  get-lookup b q = fin.get-from_entries o b.entries q ∙ find-lookup b.entries q

  pub inserted : (a b : BTreeMap K X) (k : K) (v : X) → Updates R a b k (Some v) → fin.from_entries {R = R} b.entries ≡ fin.insert (fin.from_entries a.entries) k v
  inserted a b k v u = fin.same_map o exact _ _ (λ q.
      get-lookup b q ∙ u.0 q
      ∙ ap (λ (t : Bool). cond t (Some v) (lookup (is_at (R q)) a.entries)) ((eq_by_cmp_equiv o).symm k q)
      ∙ ap (λ (r : Option X). cond (eq_by_cmp R q k) (Some v) r) (sym (get-lookup a q))
      ∙ sym (fin.get-insert o (fin.from_entries a.entries) k v q))

  below : (k : K) (es : List (K × X)) → AllByRecursion (λ y. R k y ≡ Less) (keys_of es) → T (below_all R k es)
  below k [] h = tt
  below k (e ∷ es) h = both _ _ (subst (λ r. T (is_lt r)) (sym h.0) tt) (below k es h.1)

  sorted : (es : List (K × X)) → IsStrictlySortedBy R (keys_of es) → T (is_sorted R es)
  sorted [] h = tt
  sorted (e ∷ es) h = both _ _ (below e.0 es (sorted_head R e.0 (keys_of es) h)) (sorted es (sorted_tail R e.0 (keys_of es) h))

  -- entries in order are those of the finite map
  pub entries-made : (es : List (K × X)) → IsStrictlySortedBy R (keys_of es) → fin.entries (fin.from_entries {R = R} es) ≡ es
  entries-made es ordered =
      let s = sorted es ordered in
      ap fin.entries (fin.same_map o exact (fin.from_entries es) (fin.from_sorted es) (λ q. fin.get-from_entries o es q ∙ sym (fin.get-from_sorted R es q s)))
      ∙ fin.entries-from_sorted R es s
