use Rattle.std.proofs.Common.{◌≡◌, ◌||◌, drop}
use Rattle.std.specs.BTreeSet.{contains}
use Rattle.dired_text.specs.Paths.{Names, path_cmp}
use Rattle.edit_words.specs.Rows.{is_written}
use Rattle.edit_rules.proofs.table.new_paths_of.Given as goal

abbrev pub invariant-loop-row : goal.invariant-loop-row
invariant-loop-row l = (p : Names) → (contains path_cmp l.new_paths p || is_written (drop l.row-index l.rows) p) ≡ is_written l.rows p
