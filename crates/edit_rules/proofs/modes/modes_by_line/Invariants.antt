use Rattle.std.proofs.Common.{◌≡◌, ◌++◌, drop}
use Rattle.std.specs.List.{filter_map}
use Rattle.edit_words.specs.Found.{sight_in}
use Rattle.edit_rules.specs.Plans.{mode_change_of, mode_changes}
use Rattle.edit_rules.proofs.modes.modes_by_line.Given as goal

abbrev pub invariant-loop-row : goal.invariant-loop-row
invariant-loop-row l =
    l.modes.items ++ filter_map (mode_change_of (sight_in l.findings) l.table.rows.items) (drop l.row-index l.table.rows.items) ≡ mode_changes (sight_in l.findings) l.table.rows.items
