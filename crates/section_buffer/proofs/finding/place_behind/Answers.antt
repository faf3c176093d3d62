use Rattle.std.proofs.Common.{◌+◌, ◌∙◌, ◌<◌, [], arith, sym, subst, length, Some, None}
use Rattle.std.specs.Option.{option_map}
use Rattle.section_rows.specs.Orders.{from_row, rows_from}
use Rattle.section_buffer.proofs.FindLemmas.{at-row, contains-below, walk-shorter}
use Rattle.section_buffer.proofs.BehindLemmas.{Passed, few-passed, passed-all, passed-later, passed-more, passed-none}
use Rattle.section_buffer.proofs.finding.place_behind.Goals as goal

pub loop-at-init : goal.loop-at-init
loop-at-init c =
    let o = c.args.rows.now in
    record {
      within = c.first-at.ensures.within;
      passed = subst (λ rest. Passed o c.args.dir.now None 0 rest) (sym c.first-at.ensures.rest) (passed-none o c.args.dir.now);
    }

pub get-requires : goal.get-requires
get-requires c =
    let o = c.args.rows.now in
    contains-below (length o.values) c.in-Some.row.0 o.order c.rows_differ.ensures.below (at-row o.order c.loop-at.at c.in-Some.row c.in-Some.is c.loop-at.invariant.within)

pub returns-then-is_later_head : goal.returns-then-is_later_head
returns-then-is_later_head c =
    let o = c.args.rows.now in
    let dir = c.args.dir.now in
    let r = c.in-Some.row.0 in
    let last = option_map (λ row. row.0) c.loop-at.last in
    let here = at-row o.order c.loop-at.at c.in-Some.row c.in-Some.is c.loop-at.invariant.within in
    let passed : Passed o dir last c.loop-at.count (from_row r o.order) = subst (λ at. Passed o dir last c.loop-at.count (rows_from (option_map (λ row. row.0) at) o.order)) c.in-Some.is c.loop-at.invariant.passed in
    passed-later o dir last c.loop-at.count r c.get.result.now c.rows_differ.ensures.below here c.get.ensures passed c.requires (sym c.is_later_head.ensures ∙ c.if-is_later_head.true)

pub loop-at-smaller : goal.loop-at-smaller
loop-at-smaller c = walk-shorter c.args.rows.now.order c.loop-at.at c.next-at.result c.in-Some.row c.in-Some.is c.loop-at.invariant.within c.next-at.ensures.rest

pub loop-at-preserved : goal.loop-at-preserved
loop-at-preserved c =
    let o = c.args.rows.now in
    let dir = c.args.dir.now in
    let r = c.in-Some.row.0 in
    let last = option_map (λ row. row.0) c.loop-at.last in
    let here = at-row o.order c.loop-at.at c.in-Some.row c.in-Some.is c.loop-at.invariant.within in
    let passed : Passed o dir last c.loop-at.count (from_row r o.order) = subst (λ at. Passed o dir last c.loop-at.count (rows_from (option_map (λ row. row.0) at) o.order)) c.in-Some.is c.loop-at.invariant.passed in
    record {
      within = c.next-at.ensures.within;
      passed = subst (λ rest. Passed o dir (Some r) (c.loop-at.count + 1) rest) (sym c.next-at.ensures.rest)
          (passed-more o dir last c.loop-at.count r c.get.result.now c.rows_differ.ensures.below here c.get.ensures passed (sym c.is_later_head.ensures ∙ c.if-is_later_head.false));
    }

pub overflow_add-count : goal.overflow_add-count
overflow_add-count c =
    let o = c.args.rows.now in
    let dir = c.args.dir.now in
    let r = c.in-Some.row.0 in
    let last = option_map (λ row. row.0) c.loop-at.last in
    let here = at-row o.order c.loop-at.at c.in-Some.row c.in-Some.is c.loop-at.invariant.within in
    let passed : Passed o dir last c.loop-at.count (from_row r o.order) = subst (λ at. Passed o dir last c.loop-at.count (rows_from (option_map (λ row. row.0) at) o.order)) c.in-Some.is c.loop-at.invariant.passed in
    let few : c.loop-at.count < length o.order = few-passed o dir last c.loop-at.count r passed here in
    omega (arith, c.len-most.ensures, c.len-most.type_inv)

pub returns : goal.returns
returns c =
    let o = c.args.rows.now in
    let dir = c.args.dir.now in
    let last = option_map (λ row. row.0) c.loop-at.last in
    let passed : Passed o dir last c.loop-at.count [] = subst (λ at. Passed o dir last c.loop-at.count (rows_from (option_map (λ row. row.0) at) o.order)) c.in_default.is c.loop-at.invariant.passed in
    passed-all o dir last c.loop-at.count c.requires passed
