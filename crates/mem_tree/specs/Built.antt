-- The tree that a list of entries describes.
use Rattle.std.specs.Prelude.{◌≡◌, ℕ, ◌+◌, ◌==◌, pos, max, Bool, true, not, ◌&&◌, ◌||◌, List, [], ◌∷◌, ◌++◌, length, Option, Some, None, is_some, if◌then◌else◌}
use Rattle.std.specs.List.{list_all}
use Rattle.std.specs.FinMap.{get, insert}
use Rattle.std.specs.Str.{bytes_eq}
use Rattle.dired_text.specs.Paths.{AreNames, parent}
use Rattle.tree_core.specs.declared.node.Node.{Node}
use Rattle.tree_core.specs.declared.node.Node.TheVariants.{Dir, Link, File}
use Rattle.mem_tree.specs.declared.build.Entry.{Entry}
use Rattle.mem_tree.specs.declared.build.BuildFault.{BuildFault}
use Rattle.mem_tree.specs.declared.build.BuildFault.TheVariants.{BadEntry, Memory}
use Rattle.tree_core.specs.FileTree.{FileTree, is_dir_node, root_tree}
use Rattle.mem_tree.specs.Mem.{is_same_path}
use Rattle.mem_tree.specs.Times.{Times}
use Rattle.mem_tree.specs.declared.store.Store.{Store}
use Rattle.mem_tree.specs.FieldLaws.{IsText}
use Rattle.mem_tree.specs.Lawful.{is_lawful}
use Rattle.mem_tree.specs.Slots.{fits}
use Rattle.mem_tree.specs.Stores.{tree_of}

-- the entries, added to a tree one after another
abbrev pub built : FileTree → List Entry → FileTree
built t [] = t
built t (e ∷ es) = built (insert t e.path e.node) es

-- one above the number of a file
abbrev pub above : Node → ℕ
above (Dir mode) = 0
above (Link target) = 0
above (File number bytes mode) = number + 1

-- one above the greatest number of the entries, or 0 where there is none
abbrev pub next_of : List Entry → ℕ
next_of [] = 0
next_of (e ∷ es) = max (above e.node) (next_of es)

-- these are not two files of one number with different bytes or modes
abbrev pub agree : Node → Node → Bool
agree (Dir mode) other = true
agree (Link target) other = true
agree (File number bytes mode) (Dir m) = true
agree (File number bytes mode) (Link target) = true
agree (File number bytes mode) (File n b m) = not (number == n) || (bytes_eq bytes b && mode == m)

-- An entry may follow these where nothing stands at its path yet, its parent is a directory, its node is lawful, and a
-- file of its number among these is the same.
abbrev pub is_good : List Entry → Entry → Bool
is_good earlier e =
    not (is_some (get (built root_tree earlier) e.path)) && is_dir_node (get (built root_tree earlier) (parent e.path))
    && is_lawful e.node && list_all (λ (f : Entry). agree f.node e.node) earlier

-- the names and the target of an entry are texts, as those of every `Path` and `Text` are
abbrev pub HasTexts : Entry → Type 0
HasTexts e = AreNames e.path × IsText e.node

-- The same, by what a store keeps of those entries: a body for each number.
abbrev pub is_good_in : Store → Entry → Bool
is_good_in store e = (not (is_some (get (tree_of store) e.path)) && is_dir_node (get (tree_of store) (parent e.path))) && is_lawful e.node && fits store.files e.node

-- the place, from 0, of the first entry that may not follow those before it, where these came earlier
abbrev pub first_bad : List Entry → List Entry → Option ℕ
first_bad earlier [] = None
first_bad earlier (e ∷ es) = if is_good earlier e then first_bad (earlier ++ e ∷ []) es else Some (length earlier)

-- when each path was last changed, by the first entry for it
abbrev pub times_built : List Entry → Times
times_built [] q = pos 0
times_built (e ∷ es) q = if is_same_path e.path q then e.mtime else times_built es q

-- why the entries make no tree. Want of memory is free.
abbrev pub Refuses : List Entry → BuildFault → Type 0
Refuses entries (BadEntry index) = first_bad [] entries ≡ Some index
Refuses entries Memory = Unit {0}
