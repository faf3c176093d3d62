-- How many entries the tree of a drill has.
use Rattle.std.proofs.Common.{◌≡◌, ◌≢◌, ℕ, ◌+◌, ◌≤◌, Bool, false, not, ◌&&◌, ◌||◌, List, [], ◌∷◌, ◌++◌, map, length, refl, sym, ◌∙◌, ap, arith, is_some, All, Contains, length-append, count_by, cond}
use Rattle.std.specs.List.{list_any}
use Rattle.std.specs.Ordering.{eq_by_cmp}
use Rattle.std.specs.FinMap.{contains_key-keys, entries}
use Rattle.std.specs.FinMap.Entries.{is_some-find}
use Rattle.std.proofs.lemmas.Cmp.{eq_by_cmp_equiv}
use Rattle.std.proofs.lemmas.List.Folds.{list_any_none}
use Rattle.std.proofs.lemmas.List.Kept.{IsStrictlySortedBy-filter}
use Rattle.std.proofs.lemmas.List.Sums.{sum_by-append}
use Rattle.std.proofs.lemmas.Map.Keys.{IsDistinct-from_sorted}
use Rattle.std.proofs.lemmas.Map.Made.{IsDistinct-from_AllPairs, length-from_same_keys}
use Rattle.std.proofs.lemmas.Map.Views.{any-filter_same}
use Rattle.dired_text.specs.Paths.{Names, path_cmp}
use Rattle.dired_text.proofs.PathLemmas.{path_cmp-total, path_decides}
use Rattle.tree_core.specs.FileTree.{FileTree}
use Rattle.tree_core.proofs.TreeLemmas.{get-made, tie, tie-other}
use Rattle.find_listing.specs.Finds.{is_root, paths_of}
use Rattle.find_listing.proofs.KeyLemmas.{keys, keys_rise}
use Rattle.drill_tree.specs.declared.group.Group.{Group}
use Rattle.drill_tree.specs.Groups.{below, group_of, held}
use Rattle.drill_tree.specs.Drill.{IsDrillTree, drill_tree, entries_of, entry_of, group_entries}
use Rattle.edit_laws.proofs.ListLemmas.{map_parts}
use Rattle.drill_tree.proofs.DrillLemmas.{Entry, all_entries, entries_apart}
use Rattle.drill_tree.proofs.GroupLemmas.{law}
use Rattle.drill_tree.proofs.ListLemmas.{all_from, apart_map, apart_pairs, below_more, map_more}
use Rattle.drill_run.specs.Counts.{cycle_count, entry_count, is_cycle}

pub length_map : {X Y : Type 0} (f : X → Y) (xs : List X) → length (map f xs) ≡ length xs
length_map f [] = refl
length_map f (x ∷ xs) = let e = length_map f xs in omega (arith, e)

-- ---- the paths of the tree are those of its entries

module _ (numbers : Names → ℕ) (n : ℕ) where
  abbrev Paths : List Names
  Paths = map (λ (e : Entry). e.0) (entries_of numbers n)

  no_root : All (λ (p : Names). tie [] p ≡ false) Paths
  no_root = all_from (λ (p : Names). tie [] p ≡ false) Paths (λ p c. tie-other [] p (λ same. absurd (root_apart p c same)))
    where
      root_apart : (p : Names) → Contains Paths p → [] ≡ p → ⊥
      root_apart p c same = let o = map_parts (λ (e : Entry). e.0) (entries_of numbers n) p c in (entries_apart numbers n).0 o.0 o.1 (same ∙ sym o.2)

  -- whether a path stands in the tree and isn't the root
  by_path : (q : Names) → (not (is_root q) && (tie q [] || list_any (tie q) Paths)) ≡ list_any (tie q) Paths
  by_path [] = sym (list_any_none (tie []) Paths no_root)
  by_path (m ∷ q) = ap (λ (b : Bool). b || list_any (tie (m ∷ q)) Paths) (tie-other (m ∷ q) [] (λ same. not_empty m q same))
    where
      not_empty : (m : List ℕ) (q : Names) → m ∷ q ≡ [] → ⊥
      not_empty m q e = let size : length (m ∷ q) ≡ 0 = ap length e in omega (arith, size)

  same_members : (q : Names) → list_any (tie q) (paths_of (drill_tree numbers n)) ≡ list_any (tie q) Paths
  same_members q =
      any-filter_same (tie q) (λ (p : Names). not (is_root p)) (not (is_root q)) (λ p e. ap (λ (x : Names). not (is_root x)) (sym ((path_decides q p).0 e))) (keys (drill_tree numbers n))
      ∙ ap (λ (b : Bool). not (is_root q) && b) (sym (contains_key-keys (drill_tree numbers n) q) ∙ ap is_some (get-made (all_entries numbers n) q) ∙ is_some-find path_cmp q (all_entries numbers n))
      ∙ by_path q

  pub paths_counted : entry_count (drill_tree numbers n) ≡ length (entries_of numbers n)
  paths_counted =
      length-from_same_keys {eq = eq_by_cmp path_cmp} (eq_by_cmp_equiv path_cmp-total) (paths_of (drill_tree numbers n)) Paths
      (IsDistinct-from_sorted path_cmp (paths_of (drill_tree numbers n)) (IsStrictlySortedBy-filter path_cmp (λ (p : Names). not (is_root p)) (keys (drill_tree numbers n)) (keys_rise (drill_tree numbers n))))
      (IsDistinct-from_AllPairs {eq = eq_by_cmp path_cmp} path_decides Paths (apart_pairs (λ (p q : Names). p ≢ q) Paths (apart_map (λ (e : Entry). e.0) (λ (p q : Names). p ≢ q) (entries_of numbers n) (entries_apart numbers n).1)))
      same_members
      ∙ length_map (λ (e : Entry). e.0) (entries_of numbers n)

-- ---- group by group

abbrev pub in_group : ℕ → ℕ
in_group g = 1 + length (held (group_of g))

pub group_counted : (numbers : Names → ℕ) (g : ℕ) → length (group_entries numbers g) ≡ in_group g
group_counted numbers g = let e = length_map (entry_of numbers g) (held (group_of g)) in omega (arith, e)

pub entries_more : (numbers : Names → ℕ) (g : ℕ) → length (entries_of numbers (g + 1)) ≡ length (entries_of numbers g) + in_group g
entries_more numbers g =
    let e : length (entries_of numbers (g + 1)) ≡ length (entries_of numbers g ++ group_entries numbers g) = ap length (below_more (group_entries numbers) g) in
    let a = length-append (entries_of numbers g) (group_entries numbers g) in
    let b = group_counted numbers g in
    omega (arith, e, a, b)

map_itself : {X : Type 0} (xs : List X) → map (λ (x : X). x) xs ≡ xs
map_itself [] = refl
map_itself (x ∷ xs) = ap (λ l. x ∷ l) (map_itself xs)

abbrev cycle_of : ℕ → ℕ
cycle_of g = cond (is_cycle (group_of g)) 1 0

pub cycles_more : (g : ℕ) → cycle_count (g + 1) ≡ cycle_count g + cond (is_cycle (group_of g)) 1 0
cycles_more g =
    let e = sym (map_itself (map group_of (below (g + 1)))) ∙ map_more (λ (x : Group). x) group_of g ∙ ap (λ (l : List Group). l ++ group_of g ∷ []) (map_itself (map group_of (below g))) in
    ap (count_by is_cycle) e ∙ sum_by-append (λ (x : Group). cond (is_cycle x) 1 0) (map group_of (below g)) (group_of g ∷ []) ∙ ap (λ (k : ℕ). cycle_count g + k) (omega arith)

pub group_few : (g : ℕ) → in_group g ≤ 8
group_few g = let few = (law g).few_held in omega (arith, few)

-- what is counted group by group is what the tree has
pub drill_entries_counted : (n : ℕ) (t : FileTree) (entries : ℕ) → IsDrillTree n t → ((numbers : Names → ℕ) → entries ≡ length (entries_of numbers n)) → entries ≡ entry_count t
drill_entries_counted n t entries (numbers, is) counted = counted numbers ∙ sym (paths_counted numbers n) ∙ ap entry_count (sym is)
