-- The fresh entries in the first tree of a commit.
use Rattle.std.proofs.Common.{◌≡◌, ◌≢◌, ◌⊎◌, inl, inr, ⊎_elim, ℕ, ◌+◌, ◌≤◌, ◌<◌, ◌^◌, true, false, List, [], ◌∷◌, length, refl, sym, ◌∙◌, ap, arith, Option, Some, None, is_some, IsTrue, Bool}
use Rattle.std.specs.List.{AllByRecursion}
use Rattle.std.specs.FinMap.{get, insert}
use Rattle.tree_core.specs.declared.changes.Fresh.{Fresh}
use Rattle.tree_core.specs.declared.changes.Fresh.TheVariants as fresh
use Rattle.tree_core.specs.declared.node.Node.{Node}
use Rattle.tree_core.specs.declared.node.Node.TheVariants.{Dir, Link, File}
use Rattle.tree_core.specs.FileTree.{FileTree, IsTree, IsAbsent, Stands, is_dir_node, is_file_node}
use Rattle.tree_core.proofs.TreeLemmas.{absent_below, absent_not}
use Rattle.tree_core.proofs.Sound.{get-inserted, get-inserted_other, by_place}
use Rattle.commit_steps.specs.Staging.{staging, staged, temporary, held, fresh_name}
use Rattle.step_trees.specs.Leads.{start, with_fresh}
use Rattle.step_trees.proofs.NameLemmas.{fresh_injects, differ, i-fresh, i-temporary, i-held}
use Rattle.step_trees.specs.Entries.{IsFileOrLink, IsTemporary, IsHeld, IsFresh, HoldsOnly}
use Rattle.commit_states.specs.Calls.{CleansItems, node_or, fresh_node, fresh_nodes, number_behind, IsLawfulFresh, AreLawfulFresh, fresh_items}
use Rattle.commit_states.specs.Reads.{IsNamed, AreOnce}
use Rattle.commit_states.proofs.ReadLemmas.{IsItem, AreEmpty, cleans, no_dir_node}

no_dir_fresh : (old : FileTree) (n : ℕ) (f : Fresh) → IsLawfulFresh old f → is_dir_node (Some (fresh_node old n f)) ≡ false
no_dir_fresh old n (fresh.Link target) lawful = refl
no_dir_fresh old n (fresh.File bytes mode) lawful = refl
no_dir_fresh old n (fresh.Same p) lawful = by_node (get old p) lawful
  where
    by_node : (o : Option Node) → IsTrue (is_file_node o) → is_dir_node (Some (node_or o)) ≡ false
    by_node None file = cc
    by_node (Some (Dir m)) file = cc
    by_node (Some (Link target)) file = cc
    by_node (Some (File k b m)) file = refl

abbrev pub AreNoDirs : List Node → Type 0
AreNoDirs nodes = AllByRecursion (λ (node : Node). is_dir_node (Some node) ≡ false) nodes

no_dirs_fresh : (old : FileTree) (n : ℕ) (fs : List Fresh) → AreLawfulFresh old fs → AreNoDirs (fresh_nodes old n fs)
no_dirs_fresh old n [] lawful = tt
no_dirs_fresh old n (f ∷ fs) lawful = (no_dir_fresh old n f lawful.0, no_dirs_fresh old (number_behind f n) fs lawful.1)

length-fresh_nodes : (old : FileTree) (n : ℕ) (fs : List Fresh) → length (fresh_nodes old n fs) ≡ length fs
length-fresh_nodes old n [] = refl
length-fresh_nodes old n (f ∷ fs) = let e = length-fresh_nodes old (number_behind f n) fs in omega arith

fresh_apart : (i j : ℕ) → i < j → j < 2 ^ 32 → fresh_name i ≢ fresh_name j
fresh_apart i j lt low same = let e : i ≡ j = fresh_injects i j (omega arith) (omega arith) same in absurd (omega arith)

-- later ones leave it
fresh_below : (nodes : List Node) (j i : ℕ) (t : FileTree) → i < j → j + length nodes ≤ 2 ^ 32 → get (with_fresh j nodes t) (staged (fresh_name i)) ≡ get t (staged (fresh_name i))
fresh_below [] j i t lt few = refl
fresh_below (node ∷ nodes) j i t lt few =
    fresh_below nodes (j + 1) i (insert t (staged (fresh_name j)) node) (omega arith) (omega arith)
    ∙ get-inserted_other t (staged (fresh_name j)) node (staged (fresh_name i)) (λ same. fresh_apart i j lt (omega arith) (let k : fresh_name i ≡ fresh_name j = cc in k))

fresh_here : (node : Node) (nodes : List Node) (k : ℕ) (t : FileTree) → k + length (node ∷ nodes) ≤ 2 ^ 32 → get (with_fresh k (node ∷ nodes) t) (staged (fresh_name k)) ≡ Some node
fresh_here node nodes k t few = fresh_below nodes (k + 1) k (insert t (staged (fresh_name k)) node) (omega arith) (omega arith) ∙ get-inserted t (staged (fresh_name k)) node

each_stands : (nodes : List Node) (fs : List Fresh) (k : ℕ) (t : FileTree) → length nodes ≡ length fs → k + length nodes ≤ 2 ^ 32 → AreNoDirs nodes → AllByRecursion (IsItem (with_fresh k nodes t) (λ name. ⊥)) (fresh_items k fs)
each_stands [] [] k t same few kinds = tt
each_stands [] (f ∷ fs) k t same few kinds = absurd (omega arith)
each_stands (node ∷ nodes) [] k t same few kinds = absurd (omega arith)
each_stands (node ∷ nodes) (f ∷ fs) k t same few kinds =
    let here = fresh_here node nodes k t few in
    (((λ nothing. nothing), ap is_some here, ap is_dir_node here ∙ kinds.0), each_stands nodes fs (k + 1) (insert t (staged (fresh_name k)) node) (omega arith) (omega arith) kinds.1)

pub each_once : (fs : List Fresh) (k : ℕ) → k + length fs ≤ 2 ^ 32 → AreOnce (fresh_items k fs)
each_once [] k few = tt
each_once (f ∷ fs) k few = (none_later fs (k + 1) k (omega arith) (omega arith), each_once fs (k + 1) (omega arith))
  where
    none_later : (fs : List Fresh) (j k : ℕ) → k < j → j + length fs ≤ 2 ^ 32 → IsNamed (fresh_name k) (fresh_items j fs) → ⊥
    none_later [] j k lt few is = is
    none_later (f ∷ fs) j k lt few (inl same) = fresh_apart k j lt (omega arith) same
    none_later (f ∷ fs) j k lt few (inr more) = none_later fs (j + 1) k (omega arith) (omega arith) more

all_named : (nodes : List Node) (fs : List Fresh) (k : ℕ) (t : FileTree) (name : List ℕ) → length nodes ≡ length fs → Stands (with_fresh k nodes t) (staged name) → Stands t (staged name) ⊎ IsNamed name (fresh_items k fs)
all_named [] fs k t name same stands = inl stands
all_named (node ∷ nodes) [] k t name same stands = absurd (omega arith)
all_named (node ∷ nodes) (f ∷ fs) k t name same stands = ⊎_elim
    (λ there. by_place t (staged (fresh_name k)) node (staged name) (λ o. IsTrue (is_some o) → Stands t (staged name) ⊎ ((name ≡ fresh_name k) ⊎ IsNamed name (fresh_items (k + 1) fs)))
    (λ here _. inr (inl (let e : name ≡ fresh_name k = cc in e))) (λ other s. inl s) there)
    (λ more. inr (inr more))
    (all_named nodes fs (k + 1) (insert t (staged (fresh_name k)) node) name (omega arith) stands)

item_is : (t : FileTree) (fs : List Fresh) (k : ℕ) (name : List ℕ) → AllByRecursion (IsItem t (λ x. ⊥)) (fresh_items k fs) → IsNamed name (fresh_items k fs) → is_dir_node (get t (staged name)) ≡ false
item_is t [] k name each is = absurd is
item_is t (f ∷ fs) k name each (inl same) = ap (λ x. is_dir_node (get t (staged x))) same ∙ (each.0).2
item_is t (f ∷ fs) k name each (inr more) = item_is t fs (k + 1) name each.1 more

module _ (old : FileTree) (nodes : List Node) (fs : List Fresh) (same : length nodes ≡ length fs) (tree : IsTree old) (absent : IsAbsent old staging) (kinds : AreNoDirs nodes) (few : length nodes ≤ 2 ^ 32) where
  abbrev t : FileTree
  t = start old nodes

  each : AllByRecursion (IsItem t (λ name. ⊥)) (fresh_items 0 fs)
  each = each_stands nodes fs 0 (insert old staging (Dir 0o700)) same (omega arith) kinds

  named : (name : List ℕ) → Stands t (staged name) → IsNamed name (fresh_items 0 fs)
  named name stands = ⊎_elim
      (λ there. absurd (absent_not _ (get-inserted_other old staging (Dir 0o700) (staged name) (λ e. let k : staged name ≡ staging = e in cc) ∙ absent_below old tree staging absent (name ∷ [])) there))
      (λ is. is)
      (all_named nodes fs 0 (insert old staging (Dir 0o700)) name same stands)

  dir_stands : (name : List ℕ) (o : Option Node) → get t (staged name) ≡ o → IsTrue (is_dir_node o) → Stands t (staged name)
  dir_stands name None e dir = cc
  dir_stands name (Some node) e dir = ap is_some e

  empty : AreEmpty t (λ name. ⊥)
  empty name dir others = absurd (let e : true ≡ false = sym dir ∙ item_is t fs 0 name each (named name (dir_stands name (get t (staged name)) refl dir)) in cc)

  pub fresh_entries_of : CleansItems (fresh_items 0 fs) t
  fresh_entries_of = cleans (fresh_items 0 fs) t empty record { each = each; once = each_once fs 0 (omega arith); all = λ name stands. inr (named name stands) }

pub fresh_entries : (old : FileTree) (fs : List Fresh) (next : ℕ) → IsTree old → IsAbsent old staging → AreLawfulFresh old fs → length fs ≤ 2 ^ 32 → CleansItems (fresh_items 0 fs) (start old (fresh_nodes old next fs))
fresh_entries old fs next tree absent lawful few =
    let same = length-fresh_nodes old next fs in
    fresh_entries_of old (fresh_nodes old next fs) fs same tree absent (no_dirs_fresh old next fs lawful) (omega arith)

-- ---- the kinds that steps ask for

kind_is : (t : FileTree) (k : ℕ) (node : Node) → IsTemporary (fresh_name k) ⊎ (IsHeld t (fresh_name k) node ⊎ IsFresh (fresh_name k) node) → is_dir_node (Some node) ≡ false
kind_is t k node which = ⊎_elim
    (λ x. absurd (differ (fresh_name k) (temporary x.number) 102 116 (i-fresh k) (i-temporary x.number) refl x.named))
    (λ more. ⊎_elim (λ x. absurd (differ (fresh_name k) (held x.number) 102 104 (i-fresh k) (i-held x.number) refl x.named)) (λ x. by_kind (is_dir_node (Some node)) refl x.kind) more)
    which
  where
    by_kind : (b : Bool) → is_dir_node (Some node) ≡ b → IsFileOrLink node → is_dir_node (Some node) ≡ false
    by_kind false e kind = e
    by_kind true e kind = absurd (no_dir_node node kind e)

pub no_dirs_in : (nodes : List Node) (k : ℕ) (t : FileTree) → k + length nodes ≤ 2 ^ 32
    → HoldsOnly (with_fresh k nodes t) (λ name node. IsTemporary name ⊎ (IsHeld (with_fresh k nodes t) name node ⊎ IsFresh name node)) → AreNoDirs nodes
no_dirs_in [] k t few only = tt
no_dirs_in (node ∷ nodes) k t few only =
    (kind_is (with_fresh k (node ∷ nodes) t) k node (only (fresh_name k) node (fresh_here node nodes k t few)), no_dirs_in nodes (k + 1) (insert t (staged (fresh_name k)) node) (omega arith) only)

-- as many as there are nodes
abbrev pub fresh_for : List Node → List Fresh
fresh_for [] = []
fresh_for (node ∷ nodes) = fresh.Same [] ∷ fresh_for nodes

pub length-fresh_for : (nodes : List Node) → length nodes ≡ length (fresh_for nodes)
length-fresh_for [] = refl
length-fresh_for (node ∷ nodes) = let e = length-fresh_for nodes in omega arith
