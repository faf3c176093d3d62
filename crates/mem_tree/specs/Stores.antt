-- The tree that a store keeps, and its times.
pub use Rattle.mem_tree.specs.Slots.{FilesBelow}
use Rattle.std.specs.Prelude.{ℕ, List, Option, Some, None}
use Rattle.tree_core.specs.declared.node.Node.{Node}
use Rattle.tree_core.specs.declared.node.Node.TheVariants.{Dir, Link, File}
use Rattle.tree_core.specs.FileTree.{FileTree}
use Rattle.mem_tree.specs.declared.store.Store.{Store}
use Rattle.mem_tree.specs.Slots.{tree_in, times_in}
use Rattle.mem_tree.specs.Times.{Times}

-- what stands at each path
unfoldable pub tree_of : Store → FileTree
tree_of s = tree_in s.slots s.files

unfoldable pub times_of : Store → Times
times_of s = times_in s.slots

abbrev pub bytes_of : Node → Option (List ℕ)
bytes_of (Dir mode) = None
bytes_of (Link target) = None
bytes_of (File number bytes mode) = Some bytes

-- the bytes of a file, where one stands
abbrev pub bytes_at : Option Node → Option (List ℕ)
bytes_at None = None
bytes_at (Some node) = bytes_of node
