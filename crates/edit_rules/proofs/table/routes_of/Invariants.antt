use Rattle.std.proofs.Common.{◌≡◌, drop}
use Rattle.std.specs.Option.{option_map, option_or}
use Rattle.dired_text.specs.Paths.{Names}
use Rattle.path_map.specs.Walks.{IsPathMap, value_at}
use Rattle.edit_words.specs.declared.row.Row.{Row}
use Rattle.edit_words.specs.Rows.{row_from, route_to}
use Rattle.edit_rules.proofs.table.routes_of.Given as goal

abbrev pub invariant-loop-row : goal.invariant-loop-row
invariant-loop-row l = record {
  map : IsPathMap l.routes;
  noted : (p : Names) → option_or (value_at l.routes p) (option_map (λ (r : Row). route_to p r.to) (row_from (drop l.row-index l.rows) p)) ≡ option_map (λ (r : Row). route_to p r.to) (row_from l.rows p);
}
