use Rattle.std.proofs.Common.{◌≡◌, ◌||◌, drop}
use Rattle.std.specs.BTreeSet.{contains}
use Rattle.std.specs.List.{list_any}
use Rattle.dired_text.specs.Paths.{Names, path_cmp}
use Rattle.edit_words.specs.Rows.{is_same_path}
use Rattle.edit_rules.proofs.victims.Confirmations.new.Given as goal

abbrev pub invariant-loop-path : goal.invariant-loop-path
invariant-loop-path l = (p : Names) → (contains path_cmp l.paths p || list_any (is_same_path p) (drop l.path-index l.path-items)) ≡ list_any (is_same_path p) l.confirmed.paths
