-- What looks find in a tree.
use Rattle.std.specs.Prelude.{ℕ, Bool, true, false, List, [], ◌∷◌, Option, Some, None}
use Rattle.std.specs.Option.{option_map}
use Rattle.std.specs.FinMap.{get}
use Rattle.dired_text.specs.Paths.{Names}
use Rattle.tree_core.specs.declared.node.Node.{Node}
use Rattle.tree_core.specs.declared.node.Node.TheVariants as node
use Rattle.tree_core.specs.FileTree.{FileTree}
use Rattle.tree_core.specs.Fields.{names_in}
use Rattle.edit_words.specs.declared.seen.Seen.{Seen}
use Rattle.edit_words.specs.declared.seen.Seen.TheVariants.{Dir, Link, File}

-- What stands at each path, and whether nothing stands directly below it.
pub record Sight : Type 0 where
  pub at : Names → Option Seen
  pub is_empty : Names → Bool

abbrev pub seen : Node → Seen
seen (node.Dir mode) = Dir mode
seen (node.Link target) = Link target
seen (node.File number bytes mode) = File number mode

abbrev pub is_none_in : List (List ℕ) → Bool
is_none_in [] = true
is_none_in (n ∷ ns) = false

-- what looks find in a tree
abbrev pub sight_of : FileTree → Sight
sight_of t = record { at = λ p. option_map seen (get t p); is_empty = λ p. is_none_in (names_in t p) }

-- ---- words of what is seen

abbrev pub is_dir : Option Seen → Bool
is_dir None = false
is_dir (Some (Dir mode)) = true
is_dir (Some (Link target)) = false
is_dir (Some (File number mode)) = false

-- something that isn't a directory
abbrev pub is_other : Option Seen → Bool
is_other None = false
is_other (Some (Dir mode)) = false
is_other (Some (Link target)) = true
is_other (Some (File number mode)) = true

abbrev pub number_of : Option Seen → Option ℕ
number_of None = None
number_of (Some (Dir mode)) = None
number_of (Some (Link target)) = None
number_of (Some (File number mode)) = Some number

-- the file number at a path, where there is a path
abbrev pub number_at : Sight → Option Names → Option ℕ
number_at sight None = None
number_at sight (Some p) = number_of (sight.at p)
