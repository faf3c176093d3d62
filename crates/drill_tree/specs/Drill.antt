-- The tree of a drill of n groups, and its edits.
use Rattle.std.specs.Prelude.{◌≡◌, ℕ, ◌+◌, Bool, List, [], ◌∷◌, map, Some, None, if◌then◌else◌}
use Rattle.std.specs.List.{flat_map}
use Rattle.std.specs.FinMap.{from_entries}
use Rattle.dired_text.specs.Paths.{Names}
use Rattle.tree_core.specs.declared.node.Node.{Node}
use Rattle.tree_core.specs.declared.node.Node.TheVariants.{Dir, File}
use Rattle.tree_core.specs.declared.node.Kind.TheVariants as kind
use Rattle.tree_core.specs.declared.edit.Edit.{Edit}
use Rattle.tree_core.specs.declared.edit.Shown.{Shown}
use Rattle.tree_core.specs.declared.changes.Changes.{Changes}
use Rattle.tree_core.specs.declared.changes.Changes.TheVariants.{Edits}
use Rattle.tree_core.specs.FileTree.{FileTree}
use Rattle.drill_tree.specs.declared.moves.Move.{Move}
use Rattle.drill_tree.specs.Groups.{Held, below, directory, group_name, group_of, held, moves, one}

-- ---- what the tree holds

abbrev pub held_in : List ℕ → Held → Held
held_in dir h = record { path = dir ∷ h.path; is_dir = h.is_dir }

-- the directory of a group, and what it holds
abbrev pub group_held : ℕ → List Held
group_held g = directory (one (group_name g)) ∷ map (held_in (group_name g)) (held (group_of g))

-- all but the root
abbrev pub drill_held : ℕ → List Held
drill_held n = flat_map group_held (below n)

-- ---- the tree

-- directories have mode 0o755, files are empty and have mode 0o644
abbrev pub node_of : (Names → ℕ) → Names → Bool → Node
node_of numbers p is_dir = if is_dir then Dir 0o755 else File (numbers p) [] 0o644

abbrev pub entry_of : (Names → ℕ) → ℕ → Held → Names × Node
entry_of numbers g h = (group_name g ∷ h.path, node_of numbers (group_name g ∷ h.path) h.is_dir)

-- the directory of a group, and what it holds
abbrev pub group_entries : (Names → ℕ) → ℕ → List (Names × Node)
group_entries numbers g = (group_name g ∷ [], Dir 0o755) ∷ map (entry_of numbers g) (held (group_of g))

-- the entry of what is held
abbrev pub entry_at : (Names → ℕ) → Held → Names × Node
entry_at numbers h = (h.path, node_of numbers h.path h.is_dir)

-- all but the root
abbrev pub entries_of : (Names → ℕ) → ℕ → List (Names × Node)
entries_of numbers n = flat_map (group_entries numbers) (below n)

-- the tree where each file has this number
abbrev pub drill_tree : (Names → ℕ) → ℕ → FileTree
drill_tree numbers n = from_entries (([], Dir 0o755) ∷ entries_of numbers n)

-- It is the tree of the drill, whatever the numbers of its files.
abbrev pub IsDrillTree : ℕ → FileTree → Type 0
IsDrillTree n t = (numbers : Names → ℕ) × (t ≡ drill_tree numbers n)

-- ---- the edits

abbrev pub in_dir : List ℕ → Move → Move
in_dir dir m = record { source = dir ∷ m.source; is_dir = m.is_dir; to = dir ∷ m.to }

abbrev pub group_moves : ℕ → List Move
group_moves g = map (in_dir (group_name g)) (moves (group_of g))

abbrev pub drill_moves : ℕ → List Move
drill_moves n = flat_map group_moves (below n)

-- what the line of an entry shows
abbrev pub shown : Bool → Shown
shown is_dir = record { kind = (if is_dir then kind.Dir else kind.File); mode = (if is_dir then 0o755 else 0o644); target = [] }

abbrev pub edit_of : ℕ → Move → Edit
edit_of line m = record { source = m.source; was = shown m.is_dir; to = Some m.to; target = None; mode = None; line = line }

-- in the lines from this one on
abbrev pub numbered : ℕ → List Move → List Edit
numbered line [] = []
numbered line (m ∷ ms) = edit_of line m ∷ numbered (line + 1) ms

-- the line of an edit is its number from 1
abbrev pub drill_edits : ℕ → Changes
drill_edits n = Edits (numbered 1 (drill_moves n))
