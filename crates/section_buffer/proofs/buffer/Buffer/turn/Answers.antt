use Rattle.std.proofs.Common.{◌≡◌, ◌∙◌, sym, ap, subst, refl, length, reverse, vec_capacity, Some, None}
use Rattle.link_rows.specs.Net.{AllBelow}
use Rattle.section_rows.specs.Orders.{values_in}
use Rattle.section_rows.proofs.OrderLemmas.{below-mid}
use Rattle.section_buffer.specs.Buffers.{turned}
use Rattle.section_buffer.specs.Held.{IsBuffer, seen_as}
use Rattle.section_buffer.specs.Places.{head_place}
use Rattle.section_buffer.proofs.BufferLemmas.{turn-held, turn-refused, turn-seen}
use Rattle.section_buffer.proofs.FindLemmas.{found-none, found-some}
use Rattle.section_buffer.proofs.buffer.Buffer.turn.Goals as goal

pub returns-in_default : goal.returns-in_default
returns-in_default c =
    let i = c.self.inside in
    let o = i.rows in
    let kept = reverse i.kept.items in
    let dir = c.args.dir.now in
    let none = found-none o.order (head_place dir (values_in o.values o.order)) c.in_default.ensures in
    let refused : turned dir c.args.hidden (seen_as i.switches o kept) ≡ None = turn-refused i.switches o kept (vec_capacity i.kept) c.self.invariant dir c.args.hidden none in
    (refl, ap (λ b. turned dir c.args.hidden b) (sym c.self.view_is) ∙ refused, refl)

pub set_hidden-requires : goal.set_hidden-requires
set_hidden-requires c =
    let o = c.self.inside.rows in
    let k = found-some o.order (head_place c.args.dir.now (values_in o.values o.order)) c.in-Some.head.0 c.in-Some.ensures in
    below-mid (length o.values) k.0 c.in-Some.head.0 k.1 (subst (λ x. AllBelow (length o.values) x) k.2 c.rows_differ.ensures.below)

pub invariant_of-self : goal.invariant_of-self
invariant_of-self c =
    let i = c.self.inside in
    let o = i.rows in
    let kept = reverse i.kept.items in
    let dir = c.args.dir.now in
    let r = c.in-Some.head.0 in
    let d = c.rows_differ.ensures in
    let k = found-some o.order (head_place dir (values_in o.values o.order)) r c.in-Some.ensures in
    subst (λ x. IsBuffer x kept (vec_capacity i.kept)) (sym c.set_hidden.ensures)
    (turn-held i.switches o kept (vec_capacity i.kept) c.self.invariant dir c.args.hidden k.0 r k.1 k.2 k.3 d.below d.once d.out)

pub returns : goal.returns
returns c =
    let i = c.self.inside in
    let o = i.rows in
    let kept = reverse i.kept.items in
    let dir = c.args.dir.now in
    let r = c.in-Some.head.0 in
    let d = c.rows_differ.ensures in
    let k = found-some o.order (head_place dir (values_in o.values o.order)) r c.in-Some.ensures in
    ap (λ b. turned dir c.args.hidden b) (sym c.self.view_is)
    ∙ (turn-seen i.switches o kept (vec_capacity i.kept) c.self.invariant dir c.args.hidden k.0 r k.1 k.2 k.3 d.below d.once d.out
    ∙ ap (λ x. Some (seen_as i.switches x kept)) (sym c.set_hidden.ensures))
