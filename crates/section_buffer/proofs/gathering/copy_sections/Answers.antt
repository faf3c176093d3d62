use Rattle.std.proofs.Common.{◌≡◌, ◌∙◌, ◌++◌, List, Option, sym, ap, append_assoc, rules, drop, length}
use Rattle.std.specs.Option.{option_map}
use Rattle.link_rows.specs.declared.rows.RowId.{RowId}
use Rattle.section_rows.specs.declared.row.BufferRow.{BufferRow}
use Rattle.section_rows.specs.Orders.{from_row, rows_from, values_in}
use Rattle.section_buffer.specs.declared.section.Section.{Section}
use Rattle.section_buffer.specs.Held.{first_section}
use Rattle.section_buffer.specs.Rows.{sections_of}
use Rattle.section_buffer.proofs.FindLemmas.{at-row, contains-below, walk-shorter}
use Rattle.section_buffer.proofs.GatherLemmas.{sections-next}
use Rattle.section_buffer.proofs.gathering.copy_sections.Goals as goal

pub get-requires : goal.get-requires
get-requires c =
    let o = c.args.rows.now in
    contains-below (length o.values) c.in-Some.row.0 o.order c.rows_differ.ensures.below (at-row o.order c.loop-at.at c.in-Some.row c.in-Some.is c.loop-at.invariant.within)

pub loop-at-smaller : goal.loop-at-smaller
loop-at-smaller c = walk-shorter c.args.rows.now.order c.loop-at.at c.next-next.result c.in-Some.row c.in-Some.is c.loop-at.invariant.within c.next-next.ensures.rest

pub loop-at-preserved : goal.loop-at-preserved
loop-at-preserved c =
    let o = c.args.rows.now in
    let r = c.in-Some.row.0 in
    let v : BufferRow = c.get.result.now in
    let items : List Section = c.loop-at.sections.items in
    let here = at-row o.order c.loop-at.at c.in-Some.row c.in-Some.is c.loop-at.invariant.within in
    let behind : List BufferRow = values_in o.values (drop 1 (from_row r o.order)) in
    let later : List BufferRow = values_in o.values (rows_from (option_map (λ row. row.0) c.next-next.result) o.order) in
    let same : later ≡ behind = ap (λ rows. values_in o.values rows) c.next-next.ensures.rest in
    let now = sections-next o r v c.rows_differ.ensures.below here c.get.ensures in
    let at : sections_of (values_in o.values (rows_from (option_map (λ row. row.0) c.loop-at.at) o.order)) ≡ first_section v behind ++ sections_of behind =
    ap (λ (at : Option RowId). sections_of (values_in o.values (rows_from (option_map (λ row. row.0) at) o.order))) c.in-Some.is ∙ now in
    let pushed : c.push_section.new.sections.items ≡ items ++ first_section v later = search rules in
    record {
      within = c.next-next.ensures.within;
      sections = ap (λ front. front ++ sections_of later) pushed
          ∙ (append_assoc items (first_section v later) (sections_of later)
          ∙ (ap (λ rows. items ++ (first_section v rows ++ sections_of rows)) same ∙ (ap (λ x. items ++ x) (sym at) ∙ c.loop-at.invariant.sections)));
    }
