-- Least renames, for edits in one directory.
use Rattle.std.specs.Prelude.{◌≡◌, ℕ, ◌≤◌, List, [], ◌∷◌, ◌++◌, length, Some, None, false, Contains}
use Rattle.dired_text.specs.Paths.{Names}
use Rattle.tree_core.specs.FileTree.{FileTree, CanRename, Stands, moved, renamed}
use Rattle.edit_words.specs.declared.row.Row.{Row}
use Rattle.edit_words.specs.Place.{place}
use Rattle.edit_words.specs.Rows.{route_of, is_victim}

abbrev pub Renames : Type 0
Renames = List (Names × Names)

-- each meets its condition in turn
abbrev pub CanRenameAll : FileTree → Renames → Type 0
CanRenameAll t [] = Unit {0}
CanRenameAll t (r ∷ rs) = CanRename t r.0 r.1 × CanRenameAll (renamed t r.0 r.1) rs

-- where they carry a path
abbrev pub carried : Renames → Names → Names
carried [] p = p
carried (r ∷ rs) p = carried rs (moved r.0 r.1 p)

-- edits with new paths only, with all sources and new paths in one directory, and without victims
pub record IsFlatIn (dir : Names) (t : FileTree) (rs : List Row) : Type 0 where
  pub renames : (r : Row) → Contains rs r → (n m : List ℕ) × (r.source ≡ Some (dir ++ n ∷ [])) × (r.to ≡ Some (dir ++ m ∷ [])) × (r.retargets ≡ false) × (r.mode ≡ None)
  pub no_victim : (p : Names) → Stands t p → is_victim rs p ≡ false

-- No list of renames that carries every path of the tree to its new place is shorter than n.
abbrev pub IsLeast : FileTree → List Row → ℕ → Type 0
IsLeast t rs n = (dir : Names) → IsFlatIn dir t rs → (others : Renames) → CanRenameAll t others
    → ((p : Names) → Stands t p → carried others p ≡ place (route_of rs) p) → n ≤ length others
