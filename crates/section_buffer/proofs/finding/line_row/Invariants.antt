use Rattle.std.proofs.Common.{◌<◌, length, Contains, IfSome}
use Rattle.std.specs.Option.{option_map}
use Rattle.section_rows.specs.Orders.{rows_from}
use Rattle.section_buffer.proofs.FindLemmas.{LineAt}
use Rattle.section_buffer.proofs.finding.line_row.Given as goal

abbrev pub invariant-loop-at : goal.invariant-loop-at
invariant-loop-at l = record {
  within : IfSome l.at (λ row. Contains l.rows.order row.0);
  head : IfSome l.head (λ row. row.0 < length l.rows.values);
  place : LineAt l.rows l.path (option_map (λ row. row.0) l.head) (rows_from (option_map (λ row. row.0) l.at) l.rows.order);
}

abbrev pub decreases-loop-at : goal.decreases-loop-at
decreases-loop-at l = length (rows_from (option_map (λ row. row.0) l.at) l.rows.order)
