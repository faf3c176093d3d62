use Rattle.std.proofs.Common.{◌≡◌, drop}
use Rattle.edit_words.specs.Found.{sight_in}
use Rattle.edit_words.specs.Refusals.{first_fault, directory_replaced}
use Rattle.edit_rules.proofs.refusal.first_replaced.Given as goal

abbrev pub invariant-loop-row : goal.invariant-loop-row
invariant-loop-row l = first_fault (directory_replaced (sight_in l.findings) l.table.rows.items) (drop l.row-index l.table.rows.items) ≡ first_fault (directory_replaced (sight_in l.findings) l.table.rows.items) l.table.rows.items
