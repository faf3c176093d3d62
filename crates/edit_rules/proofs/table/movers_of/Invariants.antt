use Rattle.std.proofs.Common.{◌≡◌, drop, None}
use Rattle.dired_text.specs.Paths.{Names}
use Rattle.path_map.specs.Walks.{IsPathMap, value_at}
use Rattle.edit_words.specs.declared.row.Row.{Row}
use Rattle.edit_rules.specs.Claims.{claims_behind}
use Rattle.edit_rules.specs.Tables.{is_moved_by}
use Rattle.edit_rules.proofs.table.movers_of.Given as goal

abbrev pub invariant-loop-row : goal.invariant-loop-row
invariant-loop-row l = record {
  map : IsPathMap l.movers.claims;
  noted : (p : Names) → claims_behind (λ (o : Row). is_moved_by p o.source o.to) (λ (o : Row). o.line) (value_at l.movers.claims p) (drop l.row-index l.rows)
      ≡ claims_behind (λ (o : Row). is_moved_by p o.source o.to) (λ (o : Row). o.line) None l.rows;
}
