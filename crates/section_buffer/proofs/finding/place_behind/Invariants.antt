use Rattle.std.proofs.Common.{length, Contains, IfSome}
use Rattle.std.specs.Option.{option_map}
use Rattle.section_rows.specs.Orders.{rows_from}
use Rattle.section_buffer.proofs.BehindLemmas.{Passed}
use Rattle.section_buffer.proofs.finding.place_behind.Given as goal

abbrev pub invariant-loop-at : goal.invariant-loop-at
invariant-loop-at l = record {
  within : IfSome l.at (λ row. Contains l.rows.order row.0);
  passed : Passed l.rows l.dir (option_map (λ row. row.0) l.last) l.count (rows_from (option_map (λ row. row.0) l.at) l.rows.order);
}

abbrev pub decreases-loop-at : goal.decreases-loop-at
decreases-loop-at l = length (rows_from (option_map (λ row. row.0) l.at) l.rows.order)
