use Rattle.std.proofs.Common.{◌+◌, ◌<◌, sym, subst, length, Contains, IfSome, Option}
use Rattle.std.specs.Option.{option_map}
use Rattle.link_rows.specs.declared.rows.RowId.{RowId}
use Rattle.section_rows.specs.Orders.{Ordered, from_row, rows_from, without}
use Rattle.section_rows.proofs.WalkLemmas.{some-row}
use Rattle.section_buffer.proofs.FindLemmas.{at-row, contains-below}
use Rattle.section_buffer.proofs.TakeLemmas.{TakenSoFar, some-id, take-done, take-first, take-more, take-shorter}
use Rattle.section_buffer.proofs.taking.take_section.Goals as goal

pub loop-at-init : goal.loop-at-init
loop-at-init c =
    let o = c.args.rows.now in
    let r = c.args.head.0 in
    let next = option_map (λ row. row.0) c.next-at.result in
    let t = take-first o r next c.requires.stands c.requires.built c.rows_differ.ensures.once (some-id (λ x. Contains o.order x) c.next-at.result c.next-at.ensures.within) c.next-at.ensures.rest in
    record {
      within = some-row (λ x. Contains c.take.new.self.order x) c.next-at.result (subst (λ (n : Ordered). IfSome next (λ x. Contains n.order x)) (sym c.take.ensures) t.1);
      taken = subst (λ x. TakenSoFar o r 1 next x) (sym c.take.ensures) t.0;
    }

pub get-requires : goal.get-requires
get-requires c =
    let o = c.loop-at.rows in
    contains-below (length o.values) c.in-Some.row.0 o.order c.rows_differ-in-Some.ensures.below (at-row o.order c.loop-at.at c.in-Some.row c.in-Some.is c.loop-at.invariant.within)

pub returns-in_default-get : goal.returns-in_default-get
returns-in_default-get c =
    let old = c.args.rows.now in
    let o = c.loop-at.rows in
    let r = c.args.head.0 in
    let x = c.in-Some.row.0 in
    let d = c.rows_differ-in-Some.ensures in
    let here = at-row o.order c.loop-at.at c.in-Some.row c.in-Some.is c.loop-at.invariant.within in
    let t = subst (λ (at : Option RowId). TakenSoFar old r c.loop-at.count (option_map (λ row. row.0) at) o) c.in-Some.is c.loop-at.invariant.taken in
    take-done old o r c.loop-at.count x t c.get.result.now c.get.ensures d.once d.below here c.in_default-get.field-0 c.in_default-get.field-1 c.in_default-get.is

pub loop-at-smaller : goal.loop-at-smaller
loop-at-smaller c =
    let old = c.args.rows.now in
    let o = c.loop-at.rows in
    let r = c.args.head.0 in
    let x = c.in-Some.row.0 in
    let d = c.rows_differ-in-Some.ensures in
    let next = option_map (λ row. row.0) c.next-at-in-Some.result in
    let here = at-row o.order c.loop-at.at c.in-Some.row c.in-Some.is c.loop-at.invariant.within in
    let t = subst (λ (at : Option RowId). TakenSoFar old r c.loop-at.count (option_map (λ row. row.0) at) o) c.in-Some.is c.loop-at.invariant.taken in
    let within = some-id (λ y. Contains o.order y) c.next-at-in-Some.result c.next-at-in-Some.ensures.within in
    let s : length (rows_from next (without x o.order)) < length (from_row x o.order) = take-shorter old o r c.loop-at.count x t c.get.result.now c.get.ensures d.once d.below here next within c.next-at-in-Some.ensures.rest in
    subst (λ (n : Ordered). length (rows_from next n.order) < length (rows_from (option_map (λ row. row.0) c.loop-at.at) o.order)) (sym c.take-in-Some.ensures)
    (subst (λ (at : Option RowId). length (rows_from next (without x o.order)) < length (rows_from (option_map (λ row. row.0) at) o.order)) (sym c.in-Some.is) s)

pub loop-at-preserved : goal.loop-at-preserved
loop-at-preserved c =
    let old = c.args.rows.now in
    let o = c.loop-at.rows in
    let r = c.args.head.0 in
    let x = c.in-Some.row.0 in
    let d = c.rows_differ-in-Some.ensures in
    let next = option_map (λ row. row.0) c.next-at-in-Some.result in
    let here = at-row o.order c.loop-at.at c.in-Some.row c.in-Some.is c.loop-at.invariant.within in
    let t = subst (λ (at : Option RowId). TakenSoFar old r c.loop-at.count (option_map (λ row. row.0) at) o) c.in-Some.is c.loop-at.invariant.taken in
    let within = some-id (λ y. Contains o.order y) c.next-at-in-Some.result c.next-at-in-Some.ensures.within in
    let m = take-more old o r c.loop-at.count x t c.get.result.now c.get.ensures d.once d.below here c.in-Line.field-0 next c.in-Line.is within c.next-at-in-Some.ensures.rest in
    record {
      within = some-row (λ y. Contains c.take-in-Some.new.self.order y) c.next-at-in-Some.result (subst (λ (n : Ordered). IfSome next (λ y. Contains n.order y)) (sym c.take-in-Some.ensures) m.1);
      taken = subst (λ n. TakenSoFar old r (c.loop-at.count + 1) next n) (sym c.take-in-Some.ensures) m.0;
    }
