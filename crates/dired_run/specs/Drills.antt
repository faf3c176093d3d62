-- What a drill writes.
use Rattle.std.specs.Prelude.{◌≡◌, ℕ, List, ◌++◌, codes, decimal}
use Rattle.tree_core.specs.FileTree.{FileTree}
use Rattle.edit_words.specs.Edited.{edited}
use Rattle.edit_words.specs.Rows.{rows}
use Rattle.plan_fits.specs.Laws.{made_for}
use Rattle.drill_tree.specs.Drill.{IsDrillTree, drill_edits}
use Rattle.drill_memory.specs.Numbered.{HaveOwnNumbers}
use Rattle.drill_run.specs.declared.counts.DrillCounts.{DrillCounts}
use Rattle.drill_run.specs.Counts.{counts_of}

-- the line of a drill of so many directories
abbrev pub drill_text : ℕ → DrillCounts → List ℕ
drill_text groups c =
    codes "drill " ++ decimal groups ++ codes ": entries " ++ decimal c.entries ++ codes ", edits " ++ decimal c.edits ++ codes ", cycles " ++ decimal c.cycles
    ++ codes ", replaced " ++ decimal c.replaced ++ codes ", temporaries " ++ decimal c.temporaries ++ codes ", steps " ++ decimal c.steps ++ codes ", left " ++ decimal c.left ++ codes "\n"

-- They are counted in a tree of so many directories, of whose files no two have one number, and in that to which its edits lead. A new
-- file would have this number.
pub record IsCounted (groups : ℕ) (counts : DrillCounts) : Type 0 where
  pub tree : FileTree
  pub next : ℕ
  pub is_drill : IsDrillTree groups tree
  pub own_numbers : HaveOwnNumbers tree
  pub counted : counts ≡ counts_of groups tree (edited tree (rows (drill_edits groups)) (made_for tree (drill_edits groups) next))

-- It is the line of a drill of so many directories.
pub record IsDrillText (groups : ℕ) (text : List ℕ) : Type 0 where
  pub counts : DrillCounts
  pub are_counted : IsCounted groups counts
  pub line : text ≡ drill_text groups counts
