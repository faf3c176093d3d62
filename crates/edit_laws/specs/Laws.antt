-- Laws of well-formed changes of a tree: where its paths go, and what stands there.
use Rattle.std.specs.Prelude.{◌≡◌, ◌⊎◌, Bool, true, List, ◌&&◌, not, Some, Contains}
use Rattle.std.specs.List.{zip, list_any, AllZip}
use Rattle.std.specs.FinMap.{get}
use Rattle.dired_text.specs.Paths.{Names}
use Rattle.tree_core.specs.declared.node.Node.{Node}
use Rattle.tree_core.specs.declared.node.Node.TheVariants.{Dir}
use Rattle.tree_core.specs.declared.changes.Changes.{Changes}
use Rattle.tree_core.specs.FileTree.{FileTree, IsTree, IsFile}
use Rattle.edit_words.specs.declared.row.Row.{Row}
use Rattle.edit_words.specs.Place.{place}
use Rattle.edit_words.specs.Rows.{rows, is_at, is_kept, route_of}
use Rattle.edit_words.specs.WellFormed.{IsWellFormed, CanBeAsked}
use Rattle.edit_words.specs.Edited.{Came, AreMadeFor, fresh_places, missing, with_new_mode, edited, IsEdited, StaysPath}

-- Two paths that stay have one new place only where they are one path.
abbrev pub PlacesAreApart : Type 0
PlacesAreApart =
    (t : FileTree) (changes : Changes) → IsTree t → CanBeAsked (IsFile t) changes → IsWellFormed t (rows changes)
    → (p q : Names) → StaysPath t (rows changes) p → StaysPath t (rows changes) q → place (route_of (rows changes)) p ≡ place (route_of (rows changes)) q → p ≡ q

-- The edited tree as a function is one as a relation, whatever entries are made,
abbrev pub EditedIsEdited : Type 0
EditedIsEdited =
    (t : FileTree) (changes : Changes) (made : List Node) → IsTree t → CanBeAsked (IsFile t) changes → IsWellFormed t (rows changes)
    → IsEdited t (rows changes) made (edited t (rows changes) made)

-- and there is one at most, whatever is changed.
abbrev pub EditedIsOne : Type 0
EditedIsOne = (t u v : FileTree) (rs : List Row) (made : List Node) → IsEdited t rs made u → IsEdited t rs made v → u ≡ v

-- whether a path is that of a link that gets another target
abbrev pub is_retargeted : List Row → Names → Bool
is_retargeted rs p = list_any (λ (r : Row). r.retargets && is_at p r.source) rs

-- whether the entry at a path, if there is one, goes to the path's new place: neither a victim, nor removed, nor retargeted
abbrev pub goes : List Row → Names → Bool
goes rs p = is_kept rs p && not (is_retargeted rs p)

-- What stands in a tree after the changes.
pub record StandsAsEdited (t : FileTree) (rs : List Row) (made : List Node) (new : FileTree) : Type 0 where
  -- each entry that goes, at its path's new place, with its new mode
  pub went : (p : Names) (node : Node) → goes rs p ≡ true → get t p ≡ Some node → get new (place (route_of rs) p) ≡ Some (with_new_mode t rs p node)
  -- the entries that are made, one by one at their places
  pub made_stand : AllZip (λ (q : Names) (node : Node). get new q ≡ Some node) (fresh_places rs) made
  -- the missing directories
  pub missing_stand : (q : Names) → Contains (missing t rs) q → get new q ≡ Some (Dir 0o755)
  -- and nothing else
  pub only : (q : Names) (node : Node) → get new q ≡ Some node
      → Came (goes rs) (place (route_of rs)) (with_new_mode t rs) t q node ⊎ (Contains (zip (fresh_places rs) made) (q, node) ⊎ (Contains (missing t rs) q × (node ≡ Dir 0o755)))

abbrev pub PathsGoToTheirPlaces : Type 0
PathsGoToTheirPlaces =
    (t : FileTree) (changes : Changes) (made : List Node) → IsTree t → CanBeAsked (IsFile t) changes → IsWellFormed t (rows changes)
    → AreMadeFor t changes made → StandsAsEdited t (rows changes) made (edited t (rows changes) made)

abbrev pub EditedIsTree : Type 0
EditedIsTree =
    (t : FileTree) (changes : Changes) (made : List Node) → IsTree t → CanBeAsked (IsFile t) changes → IsWellFormed t (rows changes)
    → AreMadeFor t changes made → IsTree (edited t (rows changes) made)
