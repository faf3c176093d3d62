use Rattle.std.proofs.Common.{◌≡◌, ◌++◌, drop}
use Rattle.std.specs.List.{filter_map}
use Rattle.edit_words.specs.Found.{sight_in}
use Rattle.edit_rules.specs.Plans.{victim_line, victims_of}
use Rattle.edit_rules.proofs.lists.victims_by_line.Given as goal

abbrev pub invariant-loop-row : goal.invariant-loop-row
invariant-loop-row l =
    l.victims.items ++ filter_map (victim_line (sight_in l.findings) l.table.rows.items) (drop l.row-index l.table.rows.items) ≡ victims_of (sight_in l.findings) l.table.rows.items
