use Rattle.std.proofs.Common.{◌<◌, ◌∙◌, sym, subst, drop, length, IfSome}
use Rattle.std.specs.Option.{option_map}
use Rattle.section_rows.specs.Orders.{from_row, rows_from}
use Rattle.section_buffer.proofs.FindLemmas.{LineAt, at-row, contains-below, line-found, line-head, line-next, walk-shorter}
use Rattle.section_buffer.proofs.finding.line_row.Goals as goal
use Rattle.section_buffer.proofs.finding.line_row.Goals.{in-Head, in-Line+else-is_shown_at}

pub get-requires : goal.get-requires
get-requires c =
    let o = c.args.rows.now in
    contains-below (length o.values) c.in-Some.row.0 o.order c.rows_differ.ensures.below (at-row o.order c.loop-at.at c.in-Some.row c.in-Some.is c.loop-at.invariant.within)

pub returns-then-is_shown_at : goal.returns-then-is_shown_at
returns-then-is_shown_at c =
    let o = c.args.rows.now in
    let path = c.args.path.now in
    let r = c.in-Some.row.0 in
    let head = option_map (λ row. row.0) c.loop-at.head in
    let here = at-row o.order c.loop-at.at c.in-Some.row c.in-Some.is c.loop-at.invariant.within in
    let place : LineAt o path head (from_row r o.order) = subst (λ at. LineAt o path head (rows_from (option_map (λ row. row.0) at) o.order)) c.in-Some.is c.loop-at.invariant.place in
    line-found o path head r c.get.result.now c.rows_differ.ensures.below here c.get.ensures place c.in-Line.line c.in-Line.is (sym c.is_shown_at.ensures ∙ c.if-is_shown_at.true)

pub loop-at-smaller : goal.loop-at-smaller
loop-at-smaller c = walk-shorter c.args.rows.now.order c.loop-at.at c.next-at.result c.in-Some.row c.in-Some.is c.loop-at.invariant.within c.next-at.ensures.rest

pub loop-at-preserved : goal.loop-at-preserved
loop-at-preserved c =
    let o = c.args.rows.now in
    let path = c.args.path.now in
    let r = c.in-Some.row.0 in
    let head = option_map (λ row. row.0) c.loop-at.head in
    let here = at-row o.order c.loop-at.at c.in-Some.row c.in-Some.is c.loop-at.invariant.within in
    let low : r < length o.values = contains-below (length o.values) r o.order c.rows_differ.ensures.below here in
    let place : LineAt o path head (from_row r o.order) = subst (λ at. LineAt o path head (rows_from (option_map (λ row. row.0) at) o.order)) c.in-Some.is c.loop-at.invariant.place in
    elim c.match-get.branch [
      | in-Head w ↦ record {
        within = c.next-at.ensures.within;
        head = subst (λ head. IfSome head (λ row. row.0 < length o.values)) (sym w.head-is) low;
        place = subst (λ rest. LineAt o path (option_map (λ row. row.0) c.match-get.head) rest) (sym c.next-at.ensures.rest)
            (subst (λ head. LineAt o path (option_map (λ row. row.0) head) (drop 1 (from_row r o.order))) (sym w.head-is) (line-head o path head r c.get.result.now c.rows_differ.ensures.below here c.get.ensures place _ _ w.in-Head.is));
      }
      | in-Line+else-is_shown_at w ↦ record {
        within = c.next-at.ensures.within;
        head = subst (λ head. IfSome head (λ row. row.0 < length o.values)) (sym w.head-is) c.loop-at.invariant.head;
        place = subst (λ rest. LineAt o path (option_map (λ row. row.0) c.match-get.head) rest) (sym c.next-at.ensures.rest)
            (subst (λ head. LineAt o path (option_map (λ row. row.0) head) (drop 1 (from_row r o.order))) (sym w.head-is) (line-next o path head r c.get.result.now c.rows_differ.ensures.below here c.get.ensures place w.in-Line.line w.in-Line.is (sym w.is_shown_at.ensures ∙ w.if-is_shown_at.false)));
      }
    ]
