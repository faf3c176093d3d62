use Rattle.std.proofs.Common.{◌≡◌, ◌++◌, drop}
use Rattle.std.specs.List.{flat_map}
use Rattle.edit_words.specs.Found.{sight_in}
use Rattle.edit_words.specs.Refusals.{missing_above}
use Rattle.edit_rules.proofs.lists.all_missing.Given as goal

abbrev pub invariant-loop-row : goal.invariant-loop-row
invariant-loop-row l =
    l.all.items ++ flat_map (missing_above (sight_in l.findings)) (drop l.row-index l.rows) ≡ flat_map (missing_above (sight_in l.findings)) l.rows
