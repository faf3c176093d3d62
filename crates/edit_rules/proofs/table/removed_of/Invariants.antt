use Rattle.std.proofs.Common.{◌≡◌, ◌||◌, drop}
use Rattle.std.specs.BTreeSet.{contains}
use Rattle.dired_text.specs.Paths.{Names, path_cmp}
use Rattle.edit_words.specs.Rows.{is_removed}
use Rattle.edit_rules.proofs.table.removed_of.Given as goal

abbrev pub invariant-loop-row : goal.invariant-loop-row
invariant-loop-row l = (p : Names) → (contains path_cmp l.removed p || is_removed (drop l.row-index l.rows) p) ≡ is_removed l.rows p
