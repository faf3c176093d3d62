use Rattle.std.proofs.Common.{◌∙◌, sym, subst, length}
use Rattle.std.specs.Option.{option_map}
use Rattle.section_rows.specs.Orders.{from_row, rows_from}
use Rattle.section_buffer.proofs.FindLemmas.{HeadAt, at-row, contains-below, head-found, head-next, walk-shorter}
use Rattle.section_buffer.proofs.finding.head_row.Goals as goal

pub get-requires : goal.get-requires
get-requires c =
    let o = c.args.rows.now in
    contains-below (length o.values) c.in-Some.row.0 o.order c.rows_differ.ensures.below (at-row o.order c.loop-at.at c.in-Some.row c.in-Some.is c.loop-at.invariant.within)

pub returns-then-is_head : goal.returns-then-is_head
returns-then-is_head c =
    let o = c.args.rows.now in
    let dir = c.args.dir.now in
    let r = c.in-Some.row.0 in
    let here = at-row o.order c.loop-at.at c.in-Some.row c.in-Some.is c.loop-at.invariant.within in
    let place : HeadAt o dir (from_row r o.order) = subst (λ at. HeadAt o dir (rows_from (option_map (λ row. row.0) at) o.order)) c.in-Some.is c.loop-at.invariant.place in
    head-found o dir r c.get.result.now c.rows_differ.ensures.below here c.get.ensures place (sym c.is_head.ensures ∙ c.if-is_head.true)

pub loop-at-smaller : goal.loop-at-smaller
loop-at-smaller c = walk-shorter c.args.rows.now.order c.loop-at.at c.next-at.result c.in-Some.row c.in-Some.is c.loop-at.invariant.within c.next-at.ensures.rest

pub loop-at-preserved : goal.loop-at-preserved
loop-at-preserved c =
    let o = c.args.rows.now in
    let dir = c.args.dir.now in
    let r = c.in-Some.row.0 in
    let here = at-row o.order c.loop-at.at c.in-Some.row c.in-Some.is c.loop-at.invariant.within in
    let place : HeadAt o dir (from_row r o.order) = subst (λ at. HeadAt o dir (rows_from (option_map (λ row. row.0) at) o.order)) c.in-Some.is c.loop-at.invariant.place in
    record {
      within = c.next-at.ensures.within;
      place = subst (λ rest. HeadAt o dir rest) (sym c.next-at.ensures.rest) (head-next o dir r c.get.result.now c.rows_differ.ensures.below here c.get.ensures place (sym c.is_head.ensures ∙ c.if-is_head.false));
    }
