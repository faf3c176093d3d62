-- The names that are read in the staging directory are enough to clear it.
use Rattle.std.specs.Prelude.{◌≡◌, ◌⊎◌, ℕ, ◌≤◌, ◌^◌, Bool, false, not, List, [], ◌∷◌, length, Some}
use Rattle.std.specs.List.{AllByRecursion, filter}
use Rattle.std.specs.FinMap.{get}
use Rattle.std.specs.Str.{bytes_eq}
use Rattle.tree_core.specs.Fields.{names_in}
use Rattle.tree_core.specs.declared.changes.Fresh.{Fresh}
use Rattle.tree_core.specs.declared.node.Node.{Node}
use Rattle.tree_core.specs.FileTree.{FileTree, IsTree, IsAbsent, Stands, IsDir, is_dir_node}
use Rattle.commit_steps.specs.Staging.{staging, staged, sealed, undone, at_marker, back_marker}
use Rattle.step_trees.specs.Entries.{IsHeld, IsFresh, HoldsOnly}
use Rattle.step_trees.specs.Leads.{start}
use Rattle.commit_states.specs.declared.held.Held.{Held}
use Rattle.commit_states.specs.Interrupted.{IsOne}
use Rattle.commit_states.specs.Calls.{fresh_nodes, AreLawfulFresh, fresh_items, early_items, Items, held_items, Cleans, CleansItems, ClearsItems, Unstages}
use Rattle.commit_states.specs.Stops.{IsEarly}

-- it is the name of one of these
abbrev pub IsNamed : List ℕ → Items → Type 0
IsNamed name [] = ⊥
IsNamed name (x ∷ xs) = (name ≡ x.0) ⊎ IsNamed name xs

-- no name comes twice
abbrev pub AreOnce : Items → Type 0
AreOnce [] = Unit {0}
AreOnce (x ∷ xs) = (IsNamed x.0 xs → ⊥) × AreOnce xs

-- Whatever stands in the staging directory has one of these names.
abbrev pub IsAllNamed : Items → FileTree → Type 0
IsAllNamed xs t = (name : List ℕ) → Stands t (staged name) → IsNamed name xs

-- These are the names under which something stands in the staging directory, but for those that Left holds of, each once, with
-- whether it is a directory.
pub record AreRead (t : FileTree) (Left : List ℕ → Type 0) (xs : Items) : Type 0 where
  pub each : AllByRecursion (λ (x : List ℕ × Bool). (Left x.0 → ⊥) × Stands t (staged x.0) × (is_dir_node (get t (staged x.0)) ≡ x.1)) xs
  pub once : AreOnce xs
  pub all : (name : List ℕ) → Stands t (staged name) → Left name ⊎ IsNamed name xs

-- names of files and links
abbrev pub files : List (List ℕ) → Items
files [] = []
files (name ∷ names) = (name, false) ∷ files names

-- Where no journal stands,
abbrev pub EarlyNamesSuffice : Type 0
EarlyNamesSuffice = (t : FileTree) → IsDir t staging → HoldsOnly t IsEarly → (names : List (List ℕ)) → AreRead t (λ name. ⊥) (files names) → Unstages names t

-- where `done` stands,
abbrev pub SealedNamesSuffice : Type 0
SealedNamesSuffice = (t : FileTree) (n : ℕ) → HoldsOnly t (λ name node. (name ≡ sealed) ⊎ (IsHeld t name node ⊎ IsOne (at_marker n) name node))
    → (xs : Items) → AreRead t (λ name. name ≡ sealed) xs → ClearsItems sealed xs t

-- where `undone` stands,
abbrev pub UndoneNamesSuffice : Type 0
UndoneNamesSuffice = (t : FileTree) → HoldsOnly t (λ name node. (name ≡ undone) ⊎ (IsFresh name node ⊎ IsOne (back_marker 0) name node))
    → (xs : Items) → AreRead t (λ name. name ≡ undone) xs → ClearsItems undone xs t

-- and of what is put aside, and of the fresh entries, where nothing else stands.
abbrev pub HeldNamesSuffice : Type 0
HeldNamesSuffice = (t : FileTree) → HoldsOnly t (IsHeld t) → (hs : List Held) → AreRead t (λ name. ⊥) (held_items hs) → Cleans hs t

abbrev pub FreshNamesSuffice : Type 0
FreshNamesSuffice = (t : FileTree) → HoldsOnly t IsFresh → (xs : Items) → AreRead t (λ name. ⊥) xs → CleansItems xs t

-- So a way back can remove the fresh entries of a commit.
abbrev pub FreshEntriesSuffice : Type 0
FreshEntriesSuffice = (old : FileTree) (fs : List Fresh) (next : ℕ) → IsTree old → IsAbsent old staging → AreLawfulFresh old fs → length fs ≤ 2 ^ 32
    → CleansItems (fresh_items 0 fs) (start old (fresh_nodes old next fs))

-- The names that a commit makes before its journal has its name are once each, and no directory stands under such a name.
abbrev pub EarlyItemsAreOnce : Type 0
EarlyItemsAreOnce = (fs : List Fresh) → length fs ≤ 2 ^ 32 → AreOnce (early_items fs)

abbrev pub EarlyNamesAreNoDirectories : Type 0
EarlyNamesAreNoDirectories = (name : List ℕ) (node : Node) → IsEarly name node → is_dir_node (Some node) ≡ false

-- ---- what is read

-- these names, with whether each is that of a directory
abbrev pub items_in : FileTree → List (List ℕ) → Items
items_in t [] = []
items_in t (name ∷ names) = (name, is_dir_node (get t (staged name))) ∷ items_in t names

-- The names in the staging directory are such, all of them,
abbrev pub NamesAreRead : Type 0
NamesAreRead = (t : FileTree) → AreRead t (λ name. ⊥) (items_in t (names_in t staging))

-- and all but the journal's.
abbrev pub OtherNamesAreRead : Type 0
OtherNamesAreRead = (t : FileTree) (journal : List ℕ) → AreRead t (λ name. name ≡ journal) (items_in t (filter (λ name. not (bytes_eq journal name)) (names_in t staging)))
