use Rattle.std.proofs.Common.{length, Contains, IfSome}
use Rattle.std.specs.Option.{option_map}
use Rattle.section_rows.specs.Orders.{rows_from}
use Rattle.section_buffer.proofs.TakeLemmas.{TakenSoFar}
use Rattle.section_buffer.proofs.taking.take_section.Given as goal

abbrev pub invariant-loop-at : goal.invariant-loop-at
invariant-loop-at l = record {
  within : IfSome l.at (λ row. Contains l.rows.order row.0);
  taken : TakenSoFar l.fn.rows l.fn.head.0 l.count (option_map (λ row. row.0) l.at) l.rows;
}

abbrev pub decreases-loop-at : goal.decreases-loop-at
decreases-loop-at l = length (rows_from (option_map (λ row. row.0) l.at) l.rows.order)
