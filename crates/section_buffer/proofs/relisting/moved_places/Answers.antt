use Rattle.std.proofs.Common.{◌≡◌, ◌∙◌, List, Option, sym, ap, drop, length}
use Rattle.std.specs.Option.{option_map}
use Rattle.link_rows.specs.declared.rows.RowId.{RowId}
use Rattle.section_rows.specs.declared.row.BufferRow.{BufferRow}
use Rattle.section_rows.specs.Orders.{from_row, rows_from, values_in}
use Rattle.section_buffer.specs.Held.{with_place}
use Rattle.section_buffer.specs.Relisting.{Place, places_with}
use Rattle.section_buffer.specs.Rows.{sections_of}
use Rattle.section_buffer.proofs.FindLemmas.{at-row, contains-below, walk-shorter}
use Rattle.section_buffer.proofs.RelistLemmas.{places-next}
use Rattle.section_buffer.proofs.relisting.moved_places.Goals as goal

pub get-requires : goal.get-requires
get-requires c =
    let o = c.args.rows.now in
    contains-below (length o.values) c.in-Some.row.0 o.order c.rows_differ.ensures.below (at-row o.order c.loop-at.at c.in-Some.row c.in-Some.is c.loop-at.invariant.within)

pub loop-at-smaller : goal.loop-at-smaller
loop-at-smaller c = walk-shorter c.args.rows.now.order c.loop-at.at c.next-at.result c.in-Some.row c.in-Some.is c.loop-at.invariant.within c.next-at.ensures.rest

pub loop-at-preserved : goal.loop-at-preserved
loop-at-preserved c =
    let o = c.args.rows.now in
    let moved = c.args.moved.now in
    let r = c.in-Some.row.0 in
    let v : BufferRow = c.get.result.now in
    let before : List Place = c.loop-at.places.entries in
    let here = at-row o.order c.loop-at.at c.in-Some.row c.in-Some.is c.loop-at.invariant.within in
    let behind : List BufferRow = values_in o.values (drop 1 (from_row r o.order)) in
    let later : List BufferRow = values_in o.values (rows_from (option_map (λ row. row.0) c.next-at.result) o.order) in
    let same : later ≡ behind = ap (λ rows. values_in o.values rows) c.next-at.ensures.rest in
    let put : c.add_place.new.places.entries ≡ with_place moved v before = c.in_ok-add_place.ensures in
    let now = places-next moved before o r v c.rows_differ.ensures.below here c.get.ensures in
    let at : places_with moved before (sections_of (values_in o.values (rows_from (option_map (λ row. row.0) c.loop-at.at) o.order))) ≡ places_with moved (with_place moved v before) (sections_of behind) =
    ap (λ (at : Option RowId). places_with moved before (sections_of (values_in o.values (rows_from (option_map (λ row. row.0) at) o.order)))) c.in-Some.is ∙ now in
    record {
      within = c.next-at.ensures.within;
      places = ap (λ (places : List Place). places_with moved places (sections_of later)) put
          ∙ (ap (λ (rows : List BufferRow). places_with moved (with_place moved v before) (sections_of rows)) same ∙ (sym at ∙ c.loop-at.invariant.places));
    }
