-- The files of a tree that meet a predicate.
use Rattle.std.specs.Prelude.{◌≡◌, ◌≢◌, ℕ, ◌-◌, ◌≤◌, Bool, true, false, not, ◌&&◌, nat_le, List, [], ◌∷◌, map, length, get_or, ℤ, Option, Some, None, if◌then◌else◌}
use Rattle.std.specs.List.{filter}
use Rattle.std.specs.List.Sorted.{IsStrictlySortedBy}
use Rattle.std.specs.FinMap.{entries}
use Rattle.std.specs.Str.{chars}
use Rattle.dired_text.specs.Paths.{Names, AreNames, joined, path_cmp, path_bytes, max_path_bytes}
use Rattle.tree_core.specs.declared.node.CallName.{CallName}
use Rattle.tree_core.specs.declared.meta.Meta.{Meta}
use Rattle.tree_core.specs.FileTree.{FileTree}
use Rattle.listing_text.specs.Dates.{minute_of_second}
use Rattle.listing_text.specs.Grammar.{IsLawful}
use Rattle.listing_text.specs.declared.line.Line.{Line}
use Rattle.find_words.specs.Expressions.{Expression, value_of}
use Rattle.find_listing.specs.declared.ends.FindEnd.{FindEnd}
use Rattle.find_listing.specs.declared.ends.FindEnd.TheVariants.{TreeFault, Memory}

abbrev pub is_root : Names → Bool
is_root [] = true
is_root (n ∷ p) = false

-- All paths of a tree but the root, each directory before what stands in it and siblings by the bytes of their names: the paths
-- of a tree are in their order, as lists of names, and that is this order.
abbrev pub paths_of : FileTree → List Names
paths_of t = filter (λ p. not (is_root p)) (map (λ e. e.0) (entries t))

-- the characters of the last name
abbrev pub last_name : Names → List ℕ
last_name p = chars (get_or p (length p - 1) [])

-- whether a path is listed: it is no longer than a path may be, and what stands there meets the predicate
abbrev pub is_found : ℤ → (Names → Meta) → Expression → Names → Bool
is_found now fields e p = nat_le (path_bytes p) max_path_bytes && value_of now (last_name p) (fields p) e

-- the line of a path from the root
abbrev pub line_of : Names → Meta → Line
line_of p meta = record {
  kind = meta.kind;
  mode = meta.mode;
  links = meta.links;
  owner = meta.owner;
  group = meta.group;
  size = meta.size;
  minute = minute_of_second meta.mtime;
  name = joined p;
  target = meta.target;
}

-- the lines of a find: all paths, filtered
abbrev pub lines_found : FileTree → (Names → Meta) → ℤ → Expression → List Line
lines_found t fields now e = map (λ p. line_of p (fields p)) (filter (is_found now fields e) (paths_of t))

-- a line that meets a predicate, or none
abbrev pub line_if : ℤ → Expression → Names → Meta → List Line
line_if now e p meta = if value_of now (last_name p) meta e then line_of p meta ∷ [] else []

-- ---- what holds over every tree

-- A lawful line whose name is this path, from the root.
pub record IsLineOf (p : Names) (line : Line) : Type 0 where
  pub some : p ≢ []
  pub names : AreNames p
  pub short : path_bytes p ≤ max_path_bytes
  pub named : line.name ≡ joined p
  pub lawful : IsLawful line

-- one for each of these paths
abbrev pub AreLinesOf : List Names → List Line → Type 0
AreLinesOf [] [] = Unit {0}
AreLinesOf (p ∷ paths) (line ∷ lines) = IsLineOf p line × AreLinesOf paths lines
AreLinesOf [] (line ∷ lines) = ⊥
AreLinesOf (p ∷ paths) [] = ⊥

-- Lawful lines of paths in their order, so that no two have one path.
pub record AreFound (lines : List Line) : Type 0 where
  pub paths : List Names
  pub each : AreLinesOf paths lines
  pub rise : IsStrictlySortedBy path_cmp paths

-- the failed call of the tree that an end names
abbrev pub failed_call : FindEnd → Option CallName
failed_call (TreeFault call) = Some call
failed_call Memory = None
