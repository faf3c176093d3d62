-- The paths of a tree at or below a path.
use Rattle.std.proofs.Common.{◌≡◌, ℕ, Bool, true, false, ◌&&◌, ◌||◌, List, [], ◌∷◌, ◌++◌, map, refl, sym, ◌∙◌, ap, subst, append_assoc, append-nil, Option, Some, None, is_some, IsTrue, T, flat_map, if◌then◌else◌}
use Rattle.std.proofs.lemmas.Bool.{and_parts}
use Rattle.std.proofs.lemmas.Bool.Decides.{same_from_decides}
use Rattle.std.proofs.lemmas.Slice.Eq.{bytes_eq-Decides}
use Rattle.std.proofs.lemmas.List.Folds.{list_any-append, flat_map-map}
use Rattle.std.proofs.lemmas.List.Kept.{IsStrictlySortedBy-filter}
use Rattle.std.proofs.lemmas.Map.Lookups.{btree_set_from_contains}
use Rattle.std.proofs.lemmas.Map.Views.{any-filter_same}
use Rattle.std.specs.Str.{bytes_eq}
use Rattle.std.specs.declared.cmp.Ordering.{Ordering}
use Rattle.std.specs.declared.cmp.Ordering.TheVariants.{Less, Equal, Greater}
use Rattle.std.specs.Ordering.{is_lt}
use Rattle.std.specs.List.{list_any, filter, AllByRecursion}
use Rattle.std.specs.List.Sorted.{IsStrictlySortedBy}
use Rattle.std.specs.FinMap.Entries.{below_all}
use Rattle.std.specs.FinMap.{get, entries, entries_sorted, contains_key-keys, is_sorted}
use Rattle.std.specs.BTreeSet.{BTreeSet, contains}
use Rattle.dired_text.specs.Paths.{Names, path_cmp, rest_below, is_below}
use Rattle.dired_text.proofs.PathLemmas.{path_cmp-total, path_cmp-exact, rest_below-some, rest_below-same, path_decides}
use Rattle.tree_core.specs.declared.node.Node.{Node}
use Rattle.tree_core.specs.FileTree.{FileTree, IsTree, IsDir, IsAbsent, Stands, is_dir_node}
use Rattle.tree_core.specs.Fields.{names_in}
use Rattle.tree_core.proofs.TreeLemmas.{Entries, tie, tie-other}
use Rattle.tree_core.proofs.NameLemmas.{names_stand, names_rise, names_end}
use Rattle.find_listing.specs.Walks.{child, children}
use Rattle.find_listing.proofs.OrderLemmas.{Before, AreApart, behind, rest_below-front, before_below, front_less, children_apart, all_append}

abbrev pub keys : FileTree → List Names
keys t = map (λ e. e.0) (entries t)

-- those at p or below it
abbrev pub below : FileTree → Names → List Names
below t p = filter (is_below p) (keys t)

-- ---- what stands

pub stood : (t : FileTree) (p : Names) → IsDir t p → Stands t p
stood t p dir = go (get t p) refl dir
  where
    go : (o : Option Node) → get t p ≡ o → IsTrue (is_dir_node (get t p)) → IsTrue (is_some (get t p))
    go None e is = let bad : false ≡ true = rw e at is in cc
    go (Some node) e is = rw e refl

-- what is above something stands
pub front_stands : (t : FileTree) → IsTree t → (p r : Names) → Stands t (p ++ r) → Stands t p
front_stands t tree p [] stands = subst (λ (q : Names). Stands t q) (append-nil p) stands
front_stands t tree p (n ∷ r) stands =
    stood t p (tree.parents p n (front_stands t tree (p ++ n ∷ []) r (subst (λ (q : Names). Stands t q) (sym (append_assoc p (n ∷ []) r)) stands)))

-- ---- which paths there are

any_same : {X : Type 0} (f g : X → Bool) (xs : List X) → ((x : X) → f x ≡ g x) → list_any f xs ≡ list_any g xs
any_same f g [] same = refl
any_same f g (x ∷ xs) same = λ i. same x i || any_same f g xs same i

any_none : {X : Type 0} (f : X → Bool) (xs : List X) → ((x : X) → f x ≡ false) → list_any f xs ≡ false
any_none f [] none = refl
any_none f (x ∷ xs) none = rw (none x) (any_none f xs none)

any_flat : {X Y : Type 0} (f : Y → Bool) (g : X → List Y) (xs : List X) → list_any f (flat_map g xs) ≡ list_any (λ x. list_any f (g x)) xs
any_flat f g [] = refl
any_flat f g (x ∷ xs) = list_any-append f (g x) (flat_map g xs) ∙ ap (λ (b : Bool). list_any f (g x) || b) (any_flat f g xs)

in_below : (t : FileTree) (p q : Names) → list_any (tie q) (below t p) ≡ (is_below p q && is_some (get t q))
in_below t p q =
    any-filter_same (tie q) (is_below p) (is_below p q) (λ k e. ap (is_below p) (sym ((path_decides q k).0 e))) (keys t)
    ∙ ap (λ (b : Bool). is_below p q && b) (sym (contains_key-keys t q))

-- those at p or below it: p itself, and those of each name in it
abbrev pub unfolded : FileTree → Names → List Names
unfolded t p = p ∷ flat_map (below t) (children p (names_in t p))

child_test : (t : FileTree) (p q : Names) (n : List ℕ) → list_any (tie q) (below t (child p n)) ≡ (is_some (behind (n ∷ []) (rest_below p q)) && is_some (get t q))
child_test t p q n = in_below t (child p n) q ∙ ap (λ (o : Option Names). is_some o && is_some (get t q)) (rest_below-front p (n ∷ []) q)

in_children : (t : FileTree) (p q : Names)
    → list_any (tie q) (flat_map (below t) (children p (names_in t p))) ≡ list_any (λ n. is_some (behind (n ∷ []) (rest_below p q)) && is_some (get t q)) (names_in t p)
in_children t p q =
    ap (list_any (tie q)) (flat_map-map (below t) (child p) (names_in t p))
    ∙ any_flat (tie q) (λ n. below t (child p n)) (names_in t p)
    ∙ any_same (λ n. list_any (tie q) (below t (child p n))) (λ n. is_some (behind (n ∷ []) (rest_below p q)) && is_some (get t q)) (names_in t p) (child_test t p q)

turned : (n m : List ℕ) → bytes_eq n m ≡ bytes_eq m n
turned n m = same_from_decides (bytes_eq n m) (bytes_eq m n) (bytes_eq-Decides n m)
    ((λ t. sym ((bytes_eq-Decides m n).0 t)), (λ e. (bytes_eq-Decides m n).1 (sym e)))

is_some_if : (b : Bool) (r : Names) → is_some (if b then Some r else None) ≡ b
is_some_if true r = refl
is_some_if false r = refl

name_test : (m : List ℕ) (r : Names) (b : Bool) (n : List ℕ) → (is_some (behind (n ∷ []) (Some (m ∷ r))) && b) ≡ (bytes_eq m n && b)
name_test m r b n = ap (λ (x : Bool). x && b) (is_some_if (bytes_eq n m) r ∙ turned n m)

and_false : (b : Bool) → (b && false) ≡ false
and_false true = refl
and_false false = refl

and_true : (b : Bool) → (b && true) ≡ b
and_true true = refl
and_true false = refl

some_in : (t : FileTree) → IsTree t → (p q : Names) (m : List ℕ) (r : Names) → q ≡ p ++ m ∷ r → (b : Bool) → is_some (get t q) ≡ b
    → list_any (λ n. is_some (behind (n ∷ []) (Some (m ∷ r))) && b) (names_in t p) ≡ b
some_in t tree p q m r is false e =
    any_none (λ n. is_some (behind (n ∷ []) (Some (m ∷ r))) && false) (names_in t p) (λ n. and_false (is_some (behind (n ∷ []) (Some (m ∷ r)))))
some_in t tree p q m r is true e =
    any_same (λ n. is_some (behind (n ∷ []) (Some (m ∷ r))) && true) (bytes_eq m) (names_in t p) (λ n. name_test m r true n ∙ and_true (bytes_eq m n))
    ∙ names_stand t p m
    ∙ front_stands t tree (child p m) r (subst (λ (x : Names). Stands t x) (is ∙ sym (append_assoc p (m ∷ []) r)) e)

same_members : (t : FileTree) (p : Names) → IsTree t → Stands t p → (q : Names) → list_any (tie q) (below t p) ≡ list_any (tie q) (unfolded t p)
same_members t p tree stands q = go (rest_below p q) refl
  where
    go : (o : Option Names) → rest_below p q ≡ o → list_any (tie q) (below t p) ≡ list_any (tie q) (unfolded t p)
    go None e =
        let other : tie q p ≡ false = tie-other q p (λ same. let some : rest_below p q ≡ Some [] = ap (rest_below p) same ∙ rest_below-same p in cc) in
        let left : list_any (tie q) (below t p) ≡ false = in_below t p q ∙ ap (λ (o : Option Names). is_some o && is_some (get t q)) e in
        let none : list_any (tie q) (flat_map (below t) (children p (names_in t p))) ≡ false =
        in_children t p q ∙ ap (λ (o : Option Names). list_any (λ n. is_some (behind (n ∷ []) o) && is_some (get t q)) (names_in t p)) e
        ∙ any_none (λ n. is_some (behind (n ∷ []) None) && is_some (get t q)) (names_in t p) (λ n. refl) in
        left ∙ sym (ap (λ (b : Bool). b || list_any (tie q) (flat_map (below t) (children p (names_in t p)))) other ∙ none)
    go (Some []) e =
        let same : q ≡ p = rest_below-some p q [] e ∙ append-nil p in
        let is : tie q p ≡ true = (path_decides q p).1 same in
        let left : list_any (tie q) (below t p) ≡ true = in_below t p q ∙ ap (λ (o : Option Names). is_some o && is_some (get t q)) e ∙ ap (λ (x : Names). is_some (get t x)) same ∙ stands in
        left ∙ sym (ap (λ (b : Bool). b || list_any (tie q) (flat_map (below t) (children p (names_in t p)))) is)
    go (Some (m ∷ r)) e =
        let is : q ≡ p ++ m ∷ r = rest_below-some p q (m ∷ r) e in
        let other : tie q p ≡ false = tie-other q p (λ same. let nil : rest_below p q ≡ Some [] = ap (rest_below p) same ∙ rest_below-same p in cc) in
        let left : list_any (tie q) (below t p) ≡ is_some (get t q) = in_below t p q ∙ ap (λ (o : Option Names). is_some o && is_some (get t q)) e in
        let some : list_any (tie q) (flat_map (below t) (children p (names_in t p))) ≡ is_some (get t q) =
        in_children t p q ∙ ap (λ (o : Option Names). list_any (λ n. is_some (behind (n ∷ []) o) && is_some (get t q)) (names_in t p)) e
        ∙ some_in t tree p q m r is (is_some (get t q)) refl in
        left ∙ sym (ap (λ (b : Bool). b || list_any (tie q) (flat_map (below t) (children p (names_in t p)))) other ∙ some)

-- ---- in their order

less_of : (o : Ordering) → IsTrue (is_lt o) → o ≡ Less
less_of Less t = refl
less_of Equal t = cc
less_of Greater t = cc

keys_less : (k : Names) (es : Entries) → IsTrue (below_all path_cmp k es) → AllByRecursion (λ y. path_cmp k y ≡ Less) (map (λ e. e.0) es)
keys_less k [] all = tt
keys_less k (e ∷ es) all =
    let parts = and_parts (is_lt (path_cmp k e.0)) (below_all path_cmp k es) all in
    (less_of _ parts.0, keys_less k es parts.1)

keys_rise_from : (es : Entries) → IsTrue (is_sorted path_cmp es) → IsStrictlySortedBy path_cmp (map (λ e. e.0) es)
unfolding IsStrictlySortedBy
keys_rise_from [] all = tt
keys_rise_from (e ∷ es) all =
    let parts = and_parts (below_all path_cmp e.0 es) (is_sorted path_cmp es) all in
    (keys_less e.0 es parts.0, keys_rise_from es parts.1)

from_T : (b : Bool) → T b → b ≡ true
from_T true t = refl
from_T false t = absurd t

pub keys_rise : (t : FileTree) → IsStrictlySortedBy path_cmp (keys t)
keys_rise t = keys_rise_from (entries t) (from_T _ (entries_sorted t))

below_rises : (t : FileTree) (p : Names) → IsStrictlySortedBy path_cmp (below t p)
below_rises t p = IsStrictlySortedBy-filter path_cmp (is_below p) (keys t) (keys_rise t)

-- what holds of all that is written below p holds of what stands there
filter_all : (P : Names → Type 0) (p : Names) (ks : List Names) → ((r : Names) → P (p ++ r)) → AllByRecursion P (filter (is_below p) ks)
filter_all P p [] each = tt
filter_all P p (k ∷ ks) each = go (rest_below p k) refl (filter_all P p ks each)
  where
    go : (o : Option Names) → rest_below p k ≡ o → AllByRecursion P (filter (is_below p) ks) → AllByRecursion P (filter (is_below p) (k ∷ ks))
    go None e later = rw e later
    go (Some r) e later = rw e (subst P (sym (rest_below-some p k r e)) (each r), later)

pub below_all_of : (P : Names → Type 0) (t : FileTree) (p : Names) → ((r : Names) → P (p ++ r)) → AllByRecursion P (below t p)
below_all_of P t p each = filter_all P p (keys t) each

flat_all : (P : Names → Type 0) (Q : Names → Type 0) (t : FileTree) (ps : List Names) → AllByRecursion Q ps → ((p r : Names) → Q p → P (p ++ r)) → AllByRecursion P (flat_map (below t) ps)
flat_all P Q t [] all each = tt
flat_all P Q t (p ∷ ps) all each =
    all_append P (below t p) (flat_map (below t) ps) (below_all_of P t p (λ r. each p r all.0)) (flat_all P Q t ps all.1 each)

pub rises_append : (xs ys : List Names) → IsStrictlySortedBy path_cmp xs → IsStrictlySortedBy path_cmp ys
    → AllByRecursion (λ x. AllByRecursion (λ y. path_cmp x y ≡ Less) ys) xs → IsStrictlySortedBy path_cmp (xs ++ ys)
unfolding IsStrictlySortedBy
rises_append [] ys rise more across = more
rises_append (x ∷ xs) ys rise more across =
    (all_append (λ y. path_cmp x y ≡ Less) xs ys rise.0 across.0, rises_append xs ys rise.1 more across.1)

apart_less : (p r q s : Names) → Before p q → path_cmp (p ++ r) (q ++ s) ≡ Less
apart_less p r q s before = before_below p q r s before.less before.apart

flat_rises : (t : FileTree) (ps : List Names) → AreApart ps → IsStrictlySortedBy path_cmp (flat_map (below t) ps)
unfolding IsStrictlySortedBy
flat_rises t [] apart = tt
flat_rises t (p ∷ ps) apart =
    rises_append (below t p) (flat_map (below t) ps) (below_rises t p) (flat_rises t ps apart.1)
    (below_all_of (λ x. AllByRecursion (λ y. path_cmp x y ≡ Less) (flat_map (below t) ps)) t p
    (λ r. flat_all (λ y. path_cmp (p ++ r) y ≡ Less) (Before p) t ps apart.0 (λ q s before. apart_less p r q s before)))

-- the paths written below p
abbrev pub IsChildOf : Names → Names → Type 0
IsChildOf p q = (n : List ℕ) × (q ≡ child p n)

are_children : (p : Names) (names : List (List ℕ)) → AllByRecursion (IsChildOf p) (children p names)
are_children p [] = tt
are_children p (n ∷ names) = ((n, refl), are_children p names)

child_less : (p q r : Names) → IsChildOf p q → path_cmp p (q ++ r) ≡ Less
child_less p q r is = ap (path_cmp p) (ap (λ (x : Names). x ++ r) is.1 ∙ append_assoc p (is.0 ∷ []) r) ∙ front_less p is.0 r

pub children_less : (t : FileTree) (p : Names) (names : List (List ℕ)) → AllByRecursion (λ y. path_cmp p y ≡ Less) (flat_map (below t) (children p names))
children_less t p names = flat_all (λ y. path_cmp p y ≡ Less) (IsChildOf p) t (children p names) (are_children p names) (λ q r is. child_less p q r is)

unfolded_rises : (t : FileTree) (p : Names) → IsStrictlySortedBy path_cmp (unfolded t p)
unfolding IsStrictlySortedBy
unfolded_rises t p = (children_less t p (names_in t p), flat_rises t (children p (names_in t p)) (children_apart p (names_in t p) (names_rise t p)))

-- the paths at a path or below it are the path itself and then those of each name in it, in order
pub below_is : (t : FileTree) (p : Names) → IsTree t → Stands t p → below t p ≡ unfolded t p
below_is t p tree stands =
    btree_set_from_contains path_cmp-total record { keys = below t p } record { keys = unfolded t p } (below_rises t p) (unfolded_rises t p) (same_members t p tree stands) path_cmp-exact

-- what isn't a directory has no names in it
pub none_in : (t : FileTree) (p : Names) → IsTree t → is_dir_node (get t p) ≡ false → names_in t p ≡ []
none_in t p tree other = (names_end t p).1 (λ n. absent n (get t (p ++ n ∷ [])) refl)
  where
    absent : (n : List ℕ) (o : Option Node) → get t (p ++ n ∷ []) ≡ o → IsAbsent t (p ++ n ∷ [])
    absent n None e = e
    absent n (Some node) e =
        let dir : is_dir_node (get t p) ≡ true = tree.parents p n (ap is_some e) in
        let bad : true ≡ false = sym dir ∙ other in cc
