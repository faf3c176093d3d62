use Rattle.std.proofs.Common.{◌≡◌, count_by, is_some, take}
use Rattle.edit_words.specs.declared.row.Row.{Row}
use Rattle.edit_words.specs.Found.{sight_in}
use Rattle.edit_words.specs.Refusals.{victim_of}
use Rattle.edit_rules.proofs.counting.replaced.Given as goal

abbrev pub invariant-loop-row : goal.invariant-loop-row
invariant-loop-row l = l.count ≡ count_by (λ (r : Row). is_some (victim_of (sight_in l.findings) l.table.rows.items r)) (take l.row-index l.table.rows.items)
