use Rattle.std.proofs.Common.{◌≡◌, ◌+◌, ◌*◌, ◌^◌, ◌≤◌, drop}
use Rattle.edit_words.specs.Found.{sight_in}
use Rattle.edit_words.specs.Refusals.{total, row_bytes, changed_bytes}
use Rattle.edit_rules.proofs.bytes.changed_bytes.Given as goal

abbrev pub invariant-loop-row : goal.invariant-loop-row
invariant-loop-row l = record {
  bytes : l.bytes + total (row_bytes (sight_in l.findings) l.table.rows.items) (drop l.row-index l.table.rows.items) ≡ changed_bytes (sight_in l.findings) l.table.rows.items;
  few : l.bytes ≤ l.row-index * 2 ^ 25;
}
