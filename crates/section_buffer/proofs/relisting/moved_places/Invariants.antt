use Rattle.std.proofs.Common.{◌≡◌, length, Contains, IfSome}
use Rattle.std.specs.Option.{option_map}
use Rattle.section_rows.specs.Orders.{rows_from, values_in}
use Rattle.section_buffer.specs.Relisting.{places_after, places_with}
use Rattle.section_buffer.specs.Rows.{sections_of}
use Rattle.section_buffer.proofs.relisting.moved_places.Given as goal

abbrev pub invariant-loop-at : goal.invariant-loop-at
invariant-loop-at l = record {
  within : IfSome l.at (λ row. Contains l.rows.order row.0);
  places : places_with l.moved l.places.entries (sections_of (values_in l.rows.values (rows_from (option_map (λ row. row.0) l.at) l.rows.order))) ≡ places_after l.moved (sections_of (values_in l.rows.values l.rows.order));
}

abbrev pub decreases-loop-at : goal.decreases-loop-at
decreases-loop-at l = length (rows_from (option_map (λ row. row.0) l.at) l.rows.order)
