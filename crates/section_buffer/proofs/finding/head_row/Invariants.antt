use Rattle.std.proofs.Common.{length, Contains, IfSome}
use Rattle.std.specs.Option.{option_map}
use Rattle.section_rows.specs.Orders.{rows_from}
use Rattle.section_buffer.proofs.FindLemmas.{HeadAt}
use Rattle.section_buffer.proofs.finding.head_row.Given as goal

abbrev pub invariant-loop-at : goal.invariant-loop-at
invariant-loop-at l = record {
  within : IfSome l.at (λ row. Contains l.rows.order row.0);
  place : HeadAt l.rows l.dir (rows_from (option_map (λ row. row.0) l.at) l.rows.order);
}

abbrev pub decreases-loop-at : goal.decreases-loop-at
decreases-loop-at l = length (rows_from (option_map (λ row. row.0) l.at) l.rows.order)
