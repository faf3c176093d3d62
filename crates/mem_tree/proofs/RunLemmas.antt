-- What is at or below a path stands together in the order of the paths.
use Rattle.std.proofs.Common.{◌≡◌, ℕ, Bool, true, false, cond, ◌&&◌, ◌||◌, T, List, [], ◌∷◌, ◌++◌, map, filter, refl, sym, ◌∙◌, ap, subst, Option, Some, None, is_some}
use Rattle.std.specs.List.{AllByRecursion, list_any}
use Rattle.std.specs.FinMap.{is_sorted}
use Rattle.std.specs.FinMap.Entries.{where_key, below_all, is_sorted-where_key}
use Rattle.std.specs.declared.cmp.Ordering.{Ordering}
use Rattle.std.specs.declared.cmp.Ordering.TheVariants.{Less, Equal, Greater}
use Rattle.std.specs.Ordering.{is_le, is_lt, nat_cmp, ordering_then, ordering_reverse}
use Rattle.std.specs.Cmp.{tied_itself}
use Rattle.std.specs.Cmp.Lexicographic.{slice_cmp, nat_list_cmp_total}
use Rattle.std.specs.FinMap.{slice_cmp-IsAntisymmetric, nat_cmp-IsAntisymmetric}
use Rattle.std.specs.Str.{bytes_eq}
use Rattle.std.proofs.lemmas.Slice.Eq.{bytes_eq-Decides}
use Rattle.std.proofs.lemmas.Bool.{cond-true, cond-false}
use Rattle.std.specs.declared.vec.Vec.{Vec}
use Rattle.std.specs.declared.ops.Bound.TheVariants.{Included, Unbounded}
use Rattle.std.specs.BTreeMap.Range.{entries_between}
use Rattle.dired_text.specs.Paths.{Names, path_cmp, rest_below, is_below}
use Rattle.dired_text.proofs.PathLemmas.{path_cmp-exact, rest_below-some}
use Rattle.tree_core.specs.Fields.{child_name, only_name}
use Rattle.mem_tree.specs.declared.slots.Slot.{Slot}
use Rattle.mem_tree.specs.Slots.{placed}
use Rattle.mem_tree.proofs.MapLemmas.{parts_true, less_of, cmp_read}
use Rattle.mem_tree.proofs.KeptMaps.{names}

-- ---- paths

le_then : (o r : Ordering) → (o ≡ Greater → ⊥) → (o ≡ Equal → is_le r ≡ true) → is_le (ordering_then o r) ≡ true
le_then Less r g e = refl
le_then Equal r g e = e refl
le_then Greater r g e = absurd (g refl)

-- a path isn't above what is below it
le-append : (p r : Names) → is_le (path_cmp p (p ++ r)) ≡ true
le-append [] [] = refl
le-append [] (x ∷ r) = refl
le-append (x ∷ p) r = ap (λ o. is_le (ordering_then o (path_cmp p (p ++ r)))) (tied_itself nat_list_cmp_total x) ∙ le-append p r

some_of : (o : Option Names) → is_some o ≡ true → (r : Names) × (o ≡ Some r)
some_of None t = cc
some_of (Some r) t = (r, refl)

pub below_le : (p q : Names) → is_below p q ≡ true → is_le (path_cmp p q) ≡ true
below_le p q t =
    let s = some_of (rest_below p q) t in
    ap (λ l. is_le (path_cmp p l)) (rest_below-some p q s.0 s.1) ∙ le-append p s.0

-- between a path and what is below it all is below it
between_below : (p q r : Names) → is_le (path_cmp p q) ≡ true → path_cmp q (p ++ r) ≡ Less → is_below p q ≡ true
between_below [] q r low high = refl
between_below (x ∷ p) [] r low high = cc
between_below (x ∷ p) (y ∷ q) r low high = by (slice_cmp nat_cmp x y) refl low high (between_below p q r)
  where
    by : (o : Ordering) → slice_cmp nat_cmp x y ≡ o → is_le (ordering_then (slice_cmp nat_cmp x y) (path_cmp p q)) ≡ true → ordering_then (slice_cmp nat_cmp y x) (path_cmp q (p ++ r)) ≡ Less
        → (is_le (path_cmp p q) ≡ true → path_cmp q (p ++ r) ≡ Less → is_below p q ≡ true) → is_some (cond (bytes_eq x y) (rest_below p q) None) ≡ true
    by Less is low high more =
        let turned : slice_cmp nat_cmp y x ≡ Greater = nat_list_cmp_total.antisymm y x ∙ ap ordering_reverse is in
        absurd (clash (sym (ap (λ o. ordering_then o (path_cmp q (p ++ r))) turned) ∙ high))
      where
        clash : Greater ≡ Less → ⊥
        clash e = cc
    by Equal is low high more =
        let same : x ≡ y = slice_cmp-IsAntisymmetric nat_cmp-IsAntisymmetric x y is in
        let turned : slice_cmp nat_cmp y x ≡ Equal = nat_list_cmp_total.antisymm y x ∙ ap ordering_reverse is in
        ap is_some (cond-true (bytes_eq x y) (rest_below p q) None ((bytes_eq-Decides x y).1 same))
        ∙ more (sym (ap (λ o. is_le (ordering_then o (path_cmp p q))) is) ∙ low) (sym (ap (λ o. ordering_then o (path_cmp q (p ++ r))) turned) ∙ high)
    by Greater is low high more = absurd (clash (sym (ap (λ o. is_le (ordering_then o (path_cmp p q))) is) ∙ low))
      where
        clash : false ≡ true → ⊥
        clash e = cc

-- ---- lists of entries

abbrev pub Placed : Type 0
Placed = List (Names × Slot)

abbrev pub firsts : Placed → List Names
firsts es = map (λ (e : Names × Slot). e.0) es

-- behind what isn't below p any more nothing is
past : (p : Names) (e : Names × Slot) (es : Placed) → is_le (path_cmp p e.0) ≡ true → is_below p e.0 ≡ false → below_all path_cmp e.0 es ≡ true → AllByRecursion (λ (f : Names × Slot). is_below p f.0 ≡ false) es
past p e [] low off below = tt
past p e (f ∷ es) low off below =
    let parts = parts_true (is_lt (path_cmp e.0 f.0)) (below_all path_cmp e.0 es) below in
    (at (is_below p f.0) refl (less_of _ parts.0), past p e es low off parts.1)
  where
    at : (b : Bool) → is_below p f.0 ≡ b → path_cmp e.0 f.0 ≡ Less → is_below p f.0 ≡ false
    at true t lt =
        let s = some_of (rest_below p f.0) t in
        absurd (clash (sym off ∙ between_below p e.0 s.0 low (ap (path_cmp e.0) (sym (rest_below-some p f.0 s.0 s.1)) ∙ lt)))
      where
        clash : false ≡ true → ⊥
        clash e = cc
    at false t lt = t

pub none_past : (p : Names) (e : Names × Slot) (es : Placed) → is_le (path_cmp p e.0) ≡ true → is_below p e.0 ≡ false → is_sorted path_cmp (e ∷ es) ≡ true → AllByRecursion (λ (f : Names × Slot). is_below p f.0 ≡ false) (e ∷ es)
none_past p e es low off sorted = (off, past p e es low off (parts_true (below_all path_cmp e.0 es) (is_sorted path_cmp es) sorted).0)

no_below : (p : Names) (es : Placed) → AllByRecursion (λ (f : Names × Slot). is_below p f.0 ≡ false) es → filter (is_below p) (firsts es) ≡ []
no_below p [] all = refl
no_below p (e ∷ es) all = ap (λ b. cond b (e.0 ∷ filter (is_below p) (firsts es)) (filter (is_below p) (firsts es))) all.0 ∙ no_below p es all.1

abbrev pub is_child : Names → Names → Bool
is_child p q = is_some (child_name p q)

child_below : (o : Option Names) → is_some (only_name o) ≡ true → is_some o ≡ true
child_below None t = cc
child_below (Some r) t = refl

not_child : (o : Option Names) → is_some o ≡ false → is_some (only_name o) ≡ false
not_child None f = refl
not_child (Some r) f = cc

no_child : (p : Names) (es : Placed) → AllByRecursion (λ (f : Names × Slot). is_below p f.0 ≡ false) es → list_any (is_child p) (firsts es) ≡ false
no_child p [] all = refl
no_child p (e ∷ es) all = (λ i. not_child (rest_below p e.0) all.0 i || list_any (is_child p) (firsts es)) ∙ no_child p es all.1

-- the entries from p on
abbrev pub from_on : Names → Names → Bool
from_on p q = is_le (path_cmp p q) && true

on_of : (b : Bool) → b ≡ true → (b && true) ≡ true
on_of true t = refl
on_of false t = t

on_back : (b : Bool) → (b && true) ≡ true → b ≡ true
on_back true t = refl
on_back false t = t

below_kept : (p : Names) (es : Placed) → filter (is_below p) (firsts (where_key path_cmp (from_on p) es)) ≡ filter (is_below p) (firsts es)
below_kept p [] = refl
below_kept p (e ∷ es) = by (from_on p e.0) (is_below p e.0) refl refl (below_kept p es)
  where
    by : (a b : Bool) → from_on p e.0 ≡ a → is_below p e.0 ≡ b → filter (is_below p) (firsts (where_key path_cmp (from_on p) es)) ≡ filter (is_below p) (firsts es)
        → filter (is_below p) (firsts (cond (from_on p e.0) (e ∷ where_key path_cmp (from_on p) es) (where_key path_cmp (from_on p) es))) ≡ cond (is_below p e.0) (e.0 ∷ filter (is_below p) (firsts es)) (filter (is_below p) (firsts es))
    by true b on below rest = ap (λ x. filter (is_below p) (firsts (cond x (e ∷ where_key path_cmp (from_on p) es) (where_key path_cmp (from_on p) es)))) on ∙ ap (λ l. cond (is_below p e.0) (e.0 ∷ l) l) rest
    by false true on below rest = absurd (clash (sym on ∙ on_of _ (below_le p e.0 below)))
      where
        clash : false ≡ true → ⊥
        clash e = cc
    by false false on below rest = ap (λ x. filter (is_below p) (firsts (cond x (e ∷ where_key path_cmp (from_on p) es) (where_key path_cmp (from_on p) es)))) on ∙ rest ∙ sym (cond-false (is_below p e.0) _ _ below)

child_kept : (p : Names) (es : Placed) → list_any (is_child p) (firsts (where_key path_cmp (from_on p) es)) ≡ list_any (is_child p) (firsts es)
child_kept p [] = refl
child_kept p (e ∷ es) = by (from_on p e.0) (is_child p e.0) refl refl (child_kept p es)
  where
    by : (a b : Bool) → from_on p e.0 ≡ a → is_child p e.0 ≡ b → list_any (is_child p) (firsts (where_key path_cmp (from_on p) es)) ≡ list_any (is_child p) (firsts es)
        → list_any (is_child p) (firsts (cond (from_on p e.0) (e ∷ where_key path_cmp (from_on p) es) (where_key path_cmp (from_on p) es))) ≡ (is_child p e.0 || list_any (is_child p) (firsts es))
    by true b on child rest = ap (λ x. list_any (is_child p) (firsts (cond x (e ∷ where_key path_cmp (from_on p) es) (where_key path_cmp (from_on p) es)))) on ∙ ap (λ x. is_child p e.0 || x) rest
    by false true on child rest = absurd (clash (sym on ∙ on_of _ (below_le p e.0 (child_below (rest_below p e.0) child))))
      where
        clash : false ≡ true → ⊥
        clash e = cc
    by false false on child rest = ap (λ x. list_any (is_child p) (firsts (cond x (e ∷ where_key path_cmp (from_on p) es) (where_key path_cmp (from_on p) es)))) on ∙ rest ∙ sym (ap (λ x. x || list_any (is_child p) (firsts es)) child)

all_on : (p : Names) (es : Placed) → AllByRecursion (λ (f : Names × Slot). is_le (path_cmp p f.0) ≡ true) (where_key path_cmp (from_on p) es)
all_on p [] = tt
all_on p (e ∷ es) = by (from_on p e.0) refl (all_on p es)
  where
    by : (b : Bool) → from_on p e.0 ≡ b → AllByRecursion (λ (f : Names × Slot). is_le (path_cmp p f.0) ≡ true) (where_key path_cmp (from_on p) es)
        → AllByRecursion (λ (f : Names × Slot). is_le (path_cmp p f.0) ≡ true) (cond (from_on p e.0) (e ∷ where_key path_cmp (from_on p) es) (where_key path_cmp (from_on p) es))
    by true t rest = subst (λ x. AllByRecursion (λ (f : Names × Slot). is_le (path_cmp p f.0) ≡ true) (cond x (e ∷ where_key path_cmp (from_on p) es) (where_key path_cmp (from_on p) es))) (sym t) (on_back _ t, rest)
    by false f rest = subst (λ x. AllByRecursion (λ (f : Names × Slot). is_le (path_cmp p f.0) ≡ true) (cond x (e ∷ where_key path_cmp (from_on p) es) (where_key path_cmp (from_on p) es))) (sym f) rest

from_T : (b : Bool) → T b → b ≡ true
from_T true t = refl
from_T false t = absurd t

sorted_on : (p : Names) (es : Placed) → is_sorted path_cmp es ≡ true → is_sorted path_cmp (where_key path_cmp (from_on p) es) ≡ true
sorted_on p es s = from_T _ (is_sorted-where_key path_cmp (from_on p) es (subst T (sym s) tt))

-- ---- a run of entries from p on, as a loop goes over it

pub record Run (p : Names) (es : Placed) : Type 0 where
  pub from : AllByRecursion (λ (f : Names × Slot). is_le (path_cmp p f.0) ≡ true) es
  pub sorted : is_sorted path_cmp es ≡ true

pub run_tail : (p : Names) (e : Names × Slot) (es : Placed) → Run p (e ∷ es) → Run p es
run_tail p e es run = record { from = run.from.1; sorted = (parts_true (below_all path_cmp e.0 es) (is_sorted path_cmp es) run.sorted).1 }

pub run_end : (p : Names) (e : Names × Slot) (es : Placed) → Run p (e ∷ es) → is_below p e.0 ≡ false → filter (is_below p) (firsts (e ∷ es)) ≡ []
run_end p e es run off = no_below p (e ∷ es) (none_past p e es run.from.0 off run.sorted)

pub run_childless : (p : Names) (e : Names × Slot) (es : Placed) → Run p (e ∷ es) → is_below p e.0 ≡ false → list_any (is_child p) (firsts (e ∷ es)) ≡ false
run_childless p e es run off = no_child p (e ∷ es) (none_past p e es run.from.0 off run.sorted)

module _ {Z : Type 0} where
  placed_between : (first : Vec (List ℕ) Z) (p : Names) → first.items ≡ p → (es : List (Vec (List ℕ) Z × Slot)) → placed (entries_between (cmp_read names path_cmp) (Included first) Unbounded es) ≡ where_key path_cmp (from_on p) (placed es)
  placed_between first p same [] = refl
  placed_between first p same (e ∷ es) = by (is_le (path_cmp first.items e.0.items) && true) refl (placed_between first p same es)
    where
      by : (b : Bool) → (is_le (path_cmp first.items e.0.items) && true) ≡ b → placed (entries_between (cmp_read names path_cmp) (Included first) Unbounded es) ≡ where_key path_cmp (from_on p) (placed es)
          → placed (cond (is_le (path_cmp first.items e.0.items) && true) (e ∷ entries_between (cmp_read names path_cmp) (Included first) Unbounded es) (entries_between (cmp_read names path_cmp) (Included first) Unbounded es)) ≡ where_key path_cmp (from_on p) (placed (e ∷ es))
      by true t rest =
          ap (λ x. placed (cond x (e ∷ entries_between (cmp_read names path_cmp) (Included first) Unbounded es) (entries_between (cmp_read names path_cmp) (Included first) Unbounded es))) t
          ∙ ap (λ l. (e.0.items, e.1) ∷ l) rest
          ∙ sym (cond-true (from_on p e.0.items) _ _ (ap (λ q. is_le (path_cmp q e.0.items) && true) (sym same) ∙ t))
      by false f rest =
          ap (λ x. placed (cond x (e ∷ entries_between (cmp_read names path_cmp) (Included first) Unbounded es) (entries_between (cmp_read names path_cmp) (Included first) Unbounded es))) f
          ∙ rest
          ∙ sym (cond-false (from_on p e.0.items) _ _ (ap (λ q. is_le (path_cmp q e.0.items) && true) (sym same) ∙ f))

  module _ (es range : List (Vec (List ℕ) Z × Slot)) (first : Vec (List ℕ) Z) (p : Names) (same : path_cmp p first.items ≡ Equal) (between : range ≡ entries_between (cmp_read names path_cmp) (Included first) Unbounded es) (sorted : is_sorted path_cmp (placed es) ≡ true) where
    range_is : placed range ≡ where_key path_cmp (from_on p) (placed es)
    range_is = ap placed between ∙ placed_between first p (sym (path_cmp-exact p first.items same)) es

    pub range_run : Run p (placed range)
    range_run = record {
      from = subst (AllByRecursion (λ (f : Names × Slot). is_le (path_cmp p f.0) ≡ true)) (sym range_is) (all_on p (placed es));
      sorted = ap (is_sorted path_cmp) range_is ∙ sorted_on p (placed es) sorted;
    }

    pub range_below : filter (is_below p) (firsts (placed range)) ≡ filter (is_below p) (firsts (placed es))
    range_below = ap (λ l. filter (is_below p) (firsts l)) range_is ∙ below_kept p (placed es)

    pub range_children : list_any (is_child p) (firsts (placed range)) ≡ list_any (is_child p) (firsts (placed es))
    range_children = ap (λ l. list_any (is_child p) (firsts l)) range_is ∙ child_kept p (placed es)
