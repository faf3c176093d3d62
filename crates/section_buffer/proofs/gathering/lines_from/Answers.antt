use Rattle.std.proofs.Common.{◌≡◌, ◌∙◌, ◌++◌, ◌∷◌, [], List, Option, sym, ap, append_assoc, append-nil, rules, drop, length}
use Rattle.std.specs.Option.{option_map}
use Rattle.link_rows.specs.declared.rows.RowId.{RowId}
use Rattle.listing_text.specs.declared.line.Line.{Line}
use Rattle.section_rows.specs.Orders.{from_row, rows_from, values_in}
use Rattle.section_buffer.specs.Rows.{lines_of}
use Rattle.section_buffer.proofs.FindLemmas.{at-row, contains-below, walk-shorter}
use Rattle.section_buffer.proofs.GatherLemmas.{lines-end, lines-next}
use Rattle.section_buffer.proofs.gathering.lines_from.Goals as goal

pub get-requires : goal.get-requires
get-requires c =
    let o = c.args.rows.now in
    contains-below (length o.values) c.in-Some.row.0 o.order c.rows_differ.ensures.below (at-row o.order c.loop-at.at c.in-Some.row c.in-Some.is c.loop-at.invariant.within)

pub returns-in_default-get : goal.returns-in_default-get
returns-in_default-get c =
    let o = c.args.rows.now in
    let r = c.in-Some.row.0 in
    let here = at-row o.order c.loop-at.at c.in-Some.row c.in-Some.is c.loop-at.invariant.within in
    let left : (at : Option RowId) → List Line = λ (at : Option RowId). lines_of (values_in o.values (rows_from (option_map (λ row. row.0) at) o.order)) in
    let none : left c.loop-at.at ≡ [] = ap left c.in-Some.is ∙ lines-end o r c.get.result.now c.rows_differ.ensures.below here c.get.ensures c.in_default-get.field-0 c.in_default-get.field-1 c.in_default-get.is in
    sym (append-nil c.loop-at.lines.items) ∙ (ap (λ rest. c.loop-at.lines.items ++ rest) (sym none) ∙ c.loop-at.invariant.lines)

pub loop-at-smaller : goal.loop-at-smaller
loop-at-smaller c = walk-shorter c.args.rows.now.order c.loop-at.at c.next-at.result c.in-Some.row c.in-Some.is c.loop-at.invariant.within c.next-at.ensures.rest

pub loop-at-preserved : goal.loop-at-preserved
loop-at-preserved c =
    let o = c.args.rows.now in
    let r = c.in-Some.row.0 in
    let items : List Line = c.loop-at.lines.items in
    let line : Line = c.in-Line.line in
    let here = at-row o.order c.loop-at.at c.in-Some.row c.in-Some.is c.loop-at.invariant.within in
    let left : (at : Option RowId) → List Line = λ (at : Option RowId). lines_of (values_in o.values (rows_from (option_map (λ row. row.0) at) o.order)) in
    let rest : List Line = lines_of (values_in o.values (drop 1 (from_row r o.order))) in
    let now : left c.loop-at.at ≡ line ∷ rest = ap left c.in-Some.is ∙ lines-next o r c.get.result.now c.rows_differ.ensures.below here c.get.ensures line c.in-Line.is in
    let next : left c.next-at.result ≡ rest = ap (λ rows. lines_of (values_in o.values rows)) c.next-at.ensures.rest in
    let pushed : c.push.new.self.items ≡ items ++ line ∷ [] = search rules in
    record {
      within = c.next-at.ensures.within;
      lines = ap (λ front. front ++ left c.next-at.result) pushed
          ∙ (append_assoc items (line ∷ []) (left c.next-at.result)
          ∙ (ap (λ later. items ++ line ∷ later) next ∙ (ap (λ later. items ++ later) (sym now) ∙ c.loop-at.invariant.lines)));
    }
