use Rattle.std.proofs.Common.{◌≡◌, ◌<◌, ◌∙◌, ◌∷◌, [], sym, ap, subst, refl, arith, length, reverse, true, vec_capacity, Contains, Some, None}
use Rattle.std.proofs.lemmas.List.{length-reverse}
use Rattle.section_rows.specs.Orders.{taken, values_in}
use Rattle.section_rows.proofs.ListLemmas.{mid-contains}
use Rattle.section_buffer.specs.declared.kept.Kept.TheVariants.{Kill}
use Rattle.section_buffer.specs.Buffers.{line_killed}
use Rattle.section_buffer.specs.Held.{IsBuffer, seen_as}
use Rattle.section_buffer.specs.Places.{line_place}
use Rattle.section_buffer.proofs.BufferLemmas.{kept-first, line-held, line-none, line-some, room-left, some-rows}
use Rattle.section_buffer.proofs.FindLemmas.{found-none, found-some}
use Rattle.section_buffer.proofs.buffer.Buffer.kill_line.Goals as goal

pub returns-in_default : goal.returns-in_default
returns-in_default c =
    let i = c.self.inside in
    let o = i.rows in
    let kept = reverse i.kept.items in
    let path = c.args.path.now in
    let none = found-none o.order (line_place path [] true (values_in o.values o.order)) c.in_default.ensures in
    let refused : line_killed path (seen_as i.switches o kept) ≡ None = line-none i.switches o kept (vec_capacity i.kept) c.self.invariant path none in
    (refl, ap (λ b. line_killed path b) (sym c.self.view_is) ∙ refused, refl)

pub take-requires : goal.take-requires
take-requires c =
    let o = c.self.inside.rows in
    let r = c.in-Some.row.0 in
    let k = found-some o.order (line_place c.args.path.now [] true (values_in o.values o.order)) r c.in-Some.ensures in
    subst (λ x. Contains x r) (sym k.2) (mid-contains r k.0 k.1)

pub keep-requires : goal.keep-requires
keep-requires c =
    let i = c.self.inside in
    let o = i.rows in
    let r = c.in-Some.row.0 in
    let k = found-some o.order (line_place c.args.path.now [] true (values_in o.values o.order)) r c.in-Some.ensures in
    let room : length (reverse i.kept.items) < vec_capacity i.kept = room-left o (reverse i.kept.items) (vec_capacity i.kept) c.self.invariant (some-rows o k.0 r k.1 k.2) in
    let n : length (reverse i.kept.items) ≡ length i.kept.items = length-reverse i.kept.items in
    omega (arith, i.kept.ok.0)

pub invariant_of-self : goal.invariant_of-self
invariant_of-self c =
    let i = c.self.inside in
    let o = i.rows in
    let kept = reverse i.kept.items in
    let r = c.in-Some.row.0 in
    let d = c.rows_differ.ensures in
    let more = vec_capacity c.keep.new.kept in
    let k = found-some o.order (line_place c.args.path.now [] true (values_in o.values o.order)) r c.in-Some.ensures in
    let f = kept-first i.kept.items c.keep.new.kept.items (Kill 1) c.keep.ensures.items in
    let h : IsBuffer (taken r o) (Kill 1 ∷ kept) more = line-held i.switches o kept (vec_capacity i.kept) c.self.invariant c.args.path.now k.0 r k.1 more k.2 k.3 d.below d.once c.keep.ensures.capacity in
    subst (λ x. IsBuffer x (reverse c.keep.new.kept.items) more) (sym c.take.ensures) (subst (λ x. IsBuffer (taken r o) x more) (sym f) h)

pub returns : goal.returns
returns c =
    let i = c.self.inside in
    let o = i.rows in
    let kept = reverse i.kept.items in
    let path = c.args.path.now in
    let r = c.in-Some.row.0 in
    let d = c.rows_differ.ensures in
    let k = found-some o.order (line_place path [] true (values_in o.values o.order)) r c.in-Some.ensures in
    let f = kept-first i.kept.items c.keep.new.kept.items (Kill 1) c.keep.ensures.items in
    ap (λ b. line_killed path b) (sym c.self.view_is)
    ∙ (line-some i.switches o kept (vec_capacity i.kept) c.self.invariant path k.0 r k.1 k.2 k.3 d.below d.once
    ∙ (ap (λ x. Some (seen_as i.switches x (Kill 1 ∷ kept))) (sym c.take.ensures) ∙ ap (λ x. Some (seen_as i.switches c.take.new.self x)) (sym f)))
