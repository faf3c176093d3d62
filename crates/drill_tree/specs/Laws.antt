-- That the edits of a drill can be made in its tree, as statements.
use Rattle.std.specs.Prelude.{◌≡◌, ℕ, ◌≤◌, ◌*◌, true, length}
use Rattle.tree_core.specs.FileTree.{FileTree}
use Rattle.tree_core.specs.declared.changes.Confirmed.{Confirmed}
use Rattle.edit_words.specs.Rows.{rows}
use Rattle.edit_words.specs.WellFormed.{AreAsked, CanBeMade}
use Rattle.drill_tree.specs.Drill.{IsDrillTree, drill_edits, drill_moves}

-- the most groups
abbrev pub max_groups : ℕ
max_groups = 20000

-- They can be asked for, and no group has more than seven.
pub record AreDrillEdits (n : ℕ) : Type 0 where
  pub asked : AreAsked (drill_edits n)
  pub few : length (drill_moves n) ≤ 7 * n

abbrev pub DrillsAreAsked : Type 0
DrillsAreAsked = (n : ℕ) → n ≤ max_groups → AreDrillEdits n

-- Where all is confirmed, they can be made in each tree of the drill.
abbrev pub DrillsCanBeMade : Type 0
DrillsCanBeMade = (n : ℕ) (t : FileTree) (confirmed : Confirmed) → n ≤ max_groups → IsDrillTree n t → confirmed.all ≡ true → CanBeMade t confirmed (rows (drill_edits n))
