use Rattle.std.proofs.Common.{◌∙◌, sym, ap, subst, length}
use Rattle.link_rows.specs.Net.{AllBelow}
use Rattle.section_rows.specs.Orders.{values_in}
use Rattle.section_rows.proofs.OrderLemmas.{below-mid}
use Rattle.section_buffer.specs.Places.{head_place}
use Rattle.section_buffer.proofs.FindLemmas.{found-none, found-some}
use Rattle.section_buffer.proofs.HideLemmas.{hidden-none, said-head, said-line}
use Rattle.section_buffer.proofs.hiding.section_hidden.Goals as goal

pub returns-in_default : goal.returns-in_default
returns-in_default c =
    let o = c.args.rows.now in
    let dir = c.args.dir.now in
    sym (hidden-none dir (values_in o.values o.order) (found-none o.order (head_place dir (values_in o.values o.order)) c.in_default.ensures))

pub get-requires : goal.get-requires
get-requires c =
    let o = c.args.rows.now in
    let k = found-some o.order (head_place c.args.dir.now (values_in o.values o.order)) c.in-Some.head.0 c.in-Some.ensures in
    below-mid (length o.values) k.0 c.in-Some.head.0 k.1 (subst (λ x. AllBelow (length o.values) x) k.2 c.rows_differ.ensures.below)

pub returns-in-Head : goal.returns-in-Head
returns-in-Head c =
    let o = c.args.rows.now in
    let dir = c.args.dir.now in
    let r = c.in-Some.head.0 in
    let k = found-some o.order (head_place dir (values_in o.values o.order)) r c.in-Some.ensures in
    sym (said-head o dir c.rows_differ.ensures.below k.0 r k.1 k.2 k.3 c.get.result.now c.get.ensures c.in-Head.dir c.in-Head.hidden c.in-Head.is)

pub returns-in-Line : goal.returns-in-Line
returns-in-Line c =
    let o = c.args.rows.now in
    let dir = c.args.dir.now in
    let r = c.in-Some.head.0 in
    let k = found-some o.order (head_place dir (values_in o.values o.order)) r c.in-Some.ensures in
    absurd (said-line o dir c.rows_differ.ensures.below k.0 r k.1 k.2 k.3 c.get.result.now c.get.ensures c.in-Line.field-0 c.in-Line.is)
