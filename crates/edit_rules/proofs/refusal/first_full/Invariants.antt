use Rattle.std.proofs.Common.{◌≡◌, drop}
use Rattle.edit_words.specs.Found.{sight_in}
use Rattle.edit_words.specs.Refusals.{first_fault, not_empty}
use Rattle.edit_rules.proofs.refusal.first_full.Given as goal

abbrev pub invariant-loop-row : goal.invariant-loop-row
invariant-loop-row l = first_fault (not_empty (sight_in l.findings)) (drop l.row-index l.table.rows.items) ≡ first_fault (not_empty (sight_in l.findings)) l.table.rows.items
