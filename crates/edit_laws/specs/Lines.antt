-- What becomes of the lines: each does what it says, and no more.
use Rattle.std.specs.Prelude.{◌≡◌, ◌≢◌, ◌⊎◌, ◌↔◌, ℕ, ◌<◌, Bool, true, false, List, [], ◌∷◌, ◌++◌, length, Some, None, is_some, IsTrue, Contains}
use Rattle.std.specs.List.{find}
use Rattle.std.specs.FinMap.{get}
use Rattle.dired_text.specs.Paths.{Names, parent}
use Rattle.tree_core.specs.declared.node.Node.{Node}
use Rattle.tree_core.specs.declared.changes.Changes.{Changes}
use Rattle.tree_core.specs.FileTree.{FileTree, IsTree, IsFile, Stands, mode_of}
use Rattle.edit_words.specs.declared.row.Row.{Row}
use Rattle.edit_words.specs.Place.{place, IsAbove, ancestors}
use Rattle.edit_words.specs.Rows.{rows, written, is_elsewhere, last_name, route_of, is_victim}
use Rattle.edit_words.specs.Edited.{node_number, with_new_mode}
use Rattle.edit_words.specs.WellFormed.{IsWellFormed, CanBeAsked, HasNumber, IsVictimOf}

-- A line is carried out on its source: that goes to the place that the line says, and has the mode that it says.
pub record IsCarriedOut (t : FileTree) (rs : List Row) (r : Row) (source : Names) : Type 0 where
  -- to the new path, where that is outside of its directory
  pub elsewhere : is_elsewhere r ≡ true → place (route_of rs) source ≡ written r
  -- to the last name of a new path in its directory, wherever that directory goes
  pub in_place : (w : Names) → r.to ≡ Some w → is_elsewhere r ≡ false → (w ≡ parent source ++ last_name w ∷ []) × (place (route_of rs) source ≡ place (route_of rs) (parent source) ++ last_name w ∷ [])
  -- and with its own name, where it has no new path
  pub still : r.to ≡ None → place (route_of rs) source ≡ place (route_of rs) (parent source) ++ last_name source ∷ []
  -- with the new mode, if there is one
  pub mode : (mode : ℕ) (node : Node) → r.mode ≡ Some mode → get t source ≡ Some node → mode_of (with_new_mode t rs source node) ≡ mode

-- each line that has a source
abbrev pub LinesAreCarriedOut : Type 0
LinesAreCarriedOut =
    (t : FileTree) (changes : Changes) → CanBeAsked (IsFile t) changes → IsWellFormed t (rows changes)
    → (r : Row) (source : Names) → Contains (rows changes) r → r.source ≡ Some source → IsCarriedOut t (rows changes) r source

-- The new place of a path, by its four cases.
pub record HasNewPlaces (rs : List Row) : Type 0 where
  -- the root stays
  pub root : place (route_of rs) [] ≡ []
  -- what an edit names anew in its directory goes with the directory, under the new name
  pub in_place : (r : Row) (p w : Names) → Contains rs r → r.source ≡ Some p → r.to ≡ Some w → is_elsewhere r ≡ false → place (route_of rs) p ≡ place (route_of rs) (parent p) ++ last_name w ∷ []
  -- what an edit sends elsewhere goes to the path that it writes
  pub elsewhere : (r : Row) (p : Names) → Contains rs r → r.source ≡ Some p → is_elsewhere r ≡ true → place (route_of rs) p ≡ written r
  -- and every other path goes with its directory, under its own name
  pub other : (p : Names) → p ≢ [] → ((r : Row) → Contains rs r → r.source ≡ Some p → r.to ≡ None) → place (route_of rs) p ≡ place (route_of rs) (parent p) ++ last_name p ∷ []

abbrev pub PlacesByCases : Type 0
PlacesByCases = (t : FileTree) (changes : Changes) → CanBeAsked (IsFile t) changes → IsWellFormed t (rows changes) → HasNewPlaces (rows changes)

-- a line gives the entry at a path a mode: its source is that path, or shows the same file
abbrev pub GivesMode : FileTree → Row → Names → Node → Type 0
GivesMode t r p node = IsTrue (is_some r.mode) × ((r.source ≡ Some p) ⊎ ((number : ℕ) × HasNumber t r number × (node_number (Some node) ≡ Some number)))

-- what no line gives a mode stays as it is
abbrev pub OthersKeepTheirModes : Type 0
OthersKeepTheirModes = (t : FileTree) (rs : List Row) (p : Names) (node : Node) → ((r : Row) → Contains rs r → GivesMode t r p node → ⊥) → with_new_mode t rs p node ≡ node

-- The victims that stand are what the new paths of rows replace.
abbrev pub VictimsAreReplaced : Type 0
VictimsAreReplaced = (t : FileTree) (rs : List Row) (p : Names) → ((is_victim rs p ≡ true) × Stands t p) ↔ ((r : Row) × Contains rs r × IsVictimOf t rs r p)

-- u is the shortest of the paths above w that pass a test
pub record IsShortestAbove (test : Names → Bool) (w u : Names) : Type 0 where
  pub above : IsAbove u w
  pub passes : test u ≡ true
  pub least : (v : Names) → IsAbove v w → length v < length u → test v ≡ false

-- The path that is found above a path is the shortest,
abbrev pub FirstIsShortest : Type 0
FirstIsShortest = (test : Names → Bool) (w u : Names) → find test (ancestors w) ≡ Some u → IsShortestAbove test w u

-- and none passes where none is found.
abbrev pub NonePasses : Type 0
NonePasses = (test : Names → Bool) (w : Names) → find test (ancestors w) ≡ None → (v : Names) → IsAbove v w → test v ≡ false
