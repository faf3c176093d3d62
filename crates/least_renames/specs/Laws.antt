-- Laws of flat changes: their knots are their cycles, and no list of renames does with fewer what edits in one directory do.
use Rattle.std.specs.Prelude.{◌≡◌, ℕ, ◌≤◌, List, length}
use Rattle.dired_text.specs.Paths.{Names}
use Rattle.commit_steps.specs.declared.step.Step.{Step}
use Rattle.tree_core.specs.declared.changes.Changes.{Changes}
use Rattle.tree_core.specs.FileTree.{FileTree, IsTree, IsFile, Stands}
use Rattle.edit_words.specs.declared.row.Row.{Row}
use Rattle.edit_words.specs.Place.{place}
use Rattle.edit_words.specs.Rows.{rows, route_of}
use Rattle.edit_words.specs.Sight.{sight_of}
use Rattle.edit_words.specs.WellFormed.{IsWellFormed, CanBeAsked}
use Rattle.plan_moves.specs.Waiting.{waiting, knots}
use Rattle.plan_moves.specs.Moves.{Moves, fresh_spots}
use Rattle.plan_moves.specs.Plan.{IsPlan}
use Rattle.plan_moves.specs.Least.{Renames, CanRenameAll, carried, IsFlatIn, IsLeast}
use Rattle.least_renames.specs.Cycles.{AreCycles, IsMovingIn, AreFlat}

-- Flat changes have as many knots as cycles, in whatever order these are found,
abbrev pub KnotsAreCycles : Type 0
KnotsAreCycles =
    (t : FileTree) (changes : Changes) (cycles : List (List Row)) → CanBeAsked (IsFile t) changes → IsWellFormed t (rows changes)
    → AreFlat (rows changes) → AreCycles (IsMovingIn (rows changes)) cycles → knots (waiting (rows changes)) ≡ length cycles

-- and they can be found.
abbrev pub CyclesAreFound : Type 0
CyclesAreFound =
    (t : FileTree) (changes : Changes) → CanBeAsked (IsFile t) changes → IsWellFormed t (rows changes)
    → AreFlat (rows changes) → (cycles : List (List Row)) × AreCycles (IsMovingIn (rows changes)) cycles

-- Edits in one directory are flat.
abbrev pub OneDirectoryIsFlat : Type 0
OneDirectoryIsFlat = (dir : Names) (t : FileTree) (rs : List Row) → IsFlatIn dir t rs → AreFlat rs

-- No list of renames is shorter than the moves of what waits at first,
abbrev pub MovesAreLeast : Type 0
MovesAreLeast =
    (t : FileTree) (changes : Changes) (moves : List Step) → IsTree t → CanBeAsked (IsFile t) changes → IsWellFormed t (rows changes)
    → Moves 0 (fresh_spots 0 (rows changes)) (waiting (rows changes)) moves → IsLeast t (rows changes) (length moves)

-- nor than a plan,
abbrev pub PlansAreLeast : Type 0
PlansAreLeast =
    (t : FileTree) (changes : Changes) (steps : List Step) → IsTree t → CanBeAsked (IsFile t) changes → IsWellFormed t (rows changes)
    → IsPlan (sight_of t) (rows changes) steps → IsLeast t (rows changes) (length steps)

-- also where the renames begin with a tree in which more stands, as the staging directory,
abbrev pub IsLeastFrom : FileTree → FileTree → List Row → ℕ → Type 0
IsLeastFrom start t rs n =
    (dir : Names) → IsFlatIn dir t rs → (others : Renames) → CanRenameAll start others
    → ((p : Names) → Stands t p → carried others p ≡ place (route_of rs) p) → n ≤ length others

abbrev pub PlansAreLeastFromMore : Type 0
PlansAreLeastFromMore =
    (t start : FileTree) (changes : Changes) (steps : List Step) → IsTree t → CanBeAsked (IsFile t) changes → IsWellFormed t (rows changes)
    → IsTree start → ((p : Names) → Stands t p → Stands start p) → IsPlan (sight_of t) (rows changes) steps
    → IsLeastFrom start t (rows changes) (length steps)

-- and the steps of a plan are just the moves.
abbrev pub PlansAreMoves : Type 0
PlansAreMoves =
    (dir : Names) (t : FileTree) (changes : Changes) (steps : List Step) → IsFlatIn dir t (rows changes)
    → IsPlan (sight_of t) (rows changes) steps → Moves 0 (fresh_spots 0 (rows changes)) (waiting (rows changes)) steps
