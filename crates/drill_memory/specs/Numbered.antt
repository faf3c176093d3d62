-- The entries of the tree of a drill, whose files have numbers of their own.
use Rattle.std.specs.Prelude.{◌≡◌, ℕ, ◌+◌, pos, Bool, List, [], ◌∷◌, Some, if◌then◌else◌}
use Rattle.std.specs.FinMap.{get}
use Rattle.dired_text.specs.Paths.{Names}
use Rattle.tree_core.specs.declared.node.Node.{Node}
use Rattle.tree_core.specs.declared.node.Node.TheVariants.{Dir, File}
use Rattle.tree_core.specs.FileTree.{FileTree}
use Rattle.mem_tree.specs.declared.build.Entry.{Entry}
use Rattle.drill_tree.specs.declared.entries.Held.{Held}

-- No two paths are files of one number.
abbrev pub HaveOwnNumbers : FileTree → Type 0
HaveOwnNumbers t = (p q : Names) (number : ℕ) (b c : List ℕ) (m k : ℕ) → get t p ≡ Some (File number b m) → get t q ≡ Some (File number c k) → p ≡ q

abbrev pub node_numbered : ℕ → Bool → Node
node_numbered number is_dir = if is_dir then Dir 0o755 else File number [] 0o644

abbrev pub entry_numbered : ℕ → Held → Entry
entry_numbered number h = record { path = h.path; node = node_numbered number h.is_dir; mtime = pos 0 }

-- A file's number is its place among the entries, counted from this one on.
abbrev pub numbered : ℕ → List Held → List Entry
numbered number [] = []
numbered number (h ∷ hs) = entry_numbered number h ∷ numbered (number + 1) hs
