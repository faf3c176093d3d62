-- The paths of a tree in preorder.
use Rattle.std.specs.Prelude.{◌≡◌, List, [], ◌∷◌, map, flat_map}
use Rattle.std.specs.List.{filter}
use Rattle.std.specs.FinMap.{entries}
use Rattle.dired_text.specs.Paths.{Names, is_below}
use Rattle.tree_core.specs.FileTree.{FileTree, Stands}
use Rattle.tree_core.specs.Fields.{names_in}
use Rattle.find_listing.specs.Finds.{paths_of}
use Rattle.find_listing.specs.Walks.{children}

-- those that are a path or lie below it
abbrev pub paths_below : FileTree → Names → List Names
paths_below t p = filter (is_below p) (map (λ e. e.0) (entries t))

-- below each name in a path, one name after another by their bytes
abbrev pub paths_in_names : FileTree → Names → List Names
paths_in_names t p = flat_map (paths_below t) (children p (names_in t p))

-- All paths but the root are those of the names in it; and those at a path are the path and then those of the names in it.
pub record IsPreorder (t : FileTree) : Type 0 where
  pub whole : paths_of t ≡ paths_in_names t []
  pub each : (p : Names) → Stands t p → paths_below t p ≡ p ∷ paths_in_names t p
