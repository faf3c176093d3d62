use Rattle.std.proofs.Common.{◌≡◌, ◌∙◌, [], List, arith, ap, sym, subst, rules, length, Err}
use Rattle.std.specs.Vec.Iter.{into_iter_len}
use Rattle.std.proofs.lemmas.List.{map-id}
use Rattle.std.proofs.lemmas.Iterator.Adapters.{YieldsList-from_vec}
use Rattle.std.proofs.lemmas.Iterator.Consumers.{YieldsList-end}
use Rattle.listing_text.specs.declared.line.Line.{Line as line_type}
use Rattle.section_rows.specs.declared.row.BufferRow.TheVariants.{Head, Line}
use Rattle.section_rows.specs.Orders.{pushed_row}
use Rattle.section_buffer.specs.Buffers.{rows_of_section}
use Rattle.section_buffer.specs.Held.{Makes, with_made}
use Rattle.section_buffer.proofs.InsertLemmas.{made-line, made-none, made-one}
use Rattle.section_buffer.proofs.putting.make_rows.Goals as goal

pub returns-in_err-head : goal.returns-in_err-head
returns-in_err-head c =
    let e : c.from_residual.result ≡ Err c.in_err-head.field-0.0 = search rules in
    subst (λ r. Makes (rows_of_section c.args.dir c.args.hidden c.args.lines.items) r c.args.rows.now c.push.new.self) (sym e) ([], c.in_err-head.ensures.err ∙ made-none c.args.rows.now)

pub loop-line-init : goal.loop-line-init
loop-line-init c = c.in_ok-head.ensures.ok ∙ made-one (Head c.args.dir c.args.hidden) c.args.rows.now

pub loop-line-preserved : goal.loop-line-preserved
loop-line-preserved c =
    c.in_ok-push.ensures.ok ∙ (ap (pushed_row (Line c.in-Some.line)) c.loop-line.invariant ∙ made-line c.args.dir c.args.hidden c.loop-line.yielded c.in-Some.line c.args.rows.now)

pub returns-in_err-push : goal.returns-in_err-push
returns-in_err-push c =
    let e : c.from_residual-in_err-push.result ≡ Err c.in_err-push.field-0.0 = search rules in
    subst (λ r. Makes (rows_of_section c.args.dir c.args.hidden c.args.lines.items) r c.args.rows.now c.push-in-loop-line.new.self) (sym e) (rows_of_section c.args.dir c.args.hidden c.loop-line.yielded, c.in_err-push.ensures.err ∙ c.loop-line.invariant)

pub returns : goal.returns
returns c =
    let lines : List line_type = c.args.lines.items in
    let g = c.into_iter-line-iterator.ensures.into_iter_gives in
    let n : into_iter_len c.into_iter-line-iterator.result ≡ length lines = omega (arith, g.1, c.args.lines.ok.0) in
    let e = YieldsList-end (YieldsList-from_vec lines g.0 n) c.loop-line.yielded c.loop-line.line-iterator c.loop-line.yielded_by c.next.result c.next.new.self c.in-None.is c.next.ensures.steps in
    let all : c.loop-line.yielded ≡ lines = sym (map-id c.loop-line.yielded) ∙ e.0 in
    (c.in_ok-head.ensures.row, c.loop-line.invariant ∙ ap (λ ls. with_made (rows_of_section c.args.dir c.args.hidden ls) c.args.rows.now) all)
