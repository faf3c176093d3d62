-- The fields of the entries of a tree in memory.
use Rattle.std.specs.Prelude.{ℕ, ◌==◌, ◌-◌, ◌^◌, min, Bool, false, ℤ, pos, length, codes, Option, Some, None}
use Rattle.std.specs.List.{filter}
use Rattle.std.specs.FinMap.{get, entries}
use Rattle.dired_text.specs.Paths.{Names}
use Rattle.tree_core.specs.declared.node.Node.{Node}
use Rattle.tree_core.specs.declared.node.Node.TheVariants.{Dir, Link, File}
use Rattle.tree_core.specs.declared.meta.Meta.{Meta}
use Rattle.tree_core.specs.FileTree.{FileTree, kind_of, mode_of}
use Rattle.tree_core.specs.Fields.{target_of}
use Rattle.mem_tree.specs.Times.{Times}

-- the number of a file. What isn't a file has 0.
abbrev pub number_of : Node → ℕ
number_of (Dir mode) = 0
number_of (Link target) = 0
number_of (File number bytes mode) = number

-- whether it is the file of this number
abbrev pub is_file_of : ℕ → Node → Bool
is_file_of n (Dir mode) = false
is_file_of n (Link target) = false
is_file_of n (File number bytes mode) = n == number

-- A file's size is the number of its bytes, at most the last value of 64 bits, a link's that of its target, and a
-- directory's is 0.
abbrev pub size_of : Node → ℕ
size_of (Dir mode) = 0
size_of (Link target) = length target
size_of (File number bytes mode) = min (length bytes) (2 ^ 64 - 1)

-- how many paths a file has
abbrev pub paths_of : ℕ → FileTree → ℕ
paths_of number t = length (filter (λ (e : Names × Node). is_file_of number e.1) (entries t))

-- A file's link count is the number of its paths, at most the last value of 32 bits. Directories and links have 1.
abbrev pub links_of : Node → FileTree → ℕ
links_of (Dir mode) t = 1
links_of (Link target) t = 1
links_of (File number bytes mode) t = min (paths_of number t) (2 ^ 32 - 1)

-- the fields of a node with its mtime, whose owner is `u` and whose group is `g`
abbrev pub meta_of : FileTree → Node → ℤ → Meta
meta_of t node mtime =
    record { kind = kind_of node; mode = mode_of node; links = links_of node t; owner = codes "u"; group = codes "g"; size = size_of node; mtime = mtime; number = number_of node; target = target_of node }

-- where nothing stands, the fields of an empty directory of mode 0 fill the place
abbrev pub meta_at : FileTree → Option Node → ℤ → Meta
meta_at t None mtime = meta_of t (Dir 0) (pos 0)
meta_at t (Some node) mtime = meta_of t node mtime

-- the fields at a path
abbrev pub fields_of : FileTree → Times → Names → Meta
fields_of t times p = meta_at t (get t p) (times p)
