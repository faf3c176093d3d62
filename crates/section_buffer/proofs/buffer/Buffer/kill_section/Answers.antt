use Rattle.std.proofs.Common.{◌≡◌, ◌<◌, ◌∙◌, sym, ap, subst, refl, arith, length, reverse, vec_capacity, Contains, Some, None}
use Rattle.std.proofs.lemmas.Bool.Decides.{nat_tests}
use Rattle.std.proofs.lemmas.List.{length-reverse}
use Rattle.section_rows.specs.Orders.{values_in}
use Rattle.section_rows.proofs.ListLemmas.{mid-contains}
use Rattle.section_buffer.specs.declared.kept.Kept.TheVariants.{Kill}
use Rattle.section_buffer.specs.Buffers.{section_killed}
use Rattle.section_buffer.specs.Held.{IsBuffer, seen_as}
use Rattle.section_buffer.specs.Places.{head_place}
use Rattle.section_buffer.proofs.BufferLemmas.{kept-first, room-left, some-rows}
use Rattle.section_buffer.proofs.FindLemmas.{found-none, found-some}
use Rattle.section_buffer.proofs.TakeLemmas.{section-kept, section-none, section-some}
use Rattle.section_buffer.proofs.buffer.Buffer.kill_section.Goals as goal

pub returns-in_default : goal.returns-in_default
returns-in_default c =
    let i = c.self.inside in
    let o = i.rows in
    let kept = reverse i.kept.items in
    let dir = c.args.dir.now in
    let none = found-none o.order (head_place dir (values_in o.values o.order)) c.in_default.ensures in
    let refused : section_killed dir (seen_as i.switches o kept) ≡ None = section-none i.switches o kept (vec_capacity i.kept) c.self.invariant dir none in
    (refl, ap (λ b. section_killed dir b) (sym c.self.view_is) ∙ refused, refl)

pub take_section-count-requires-clause-stands : goal.take_section-count-requires-clause-stands
take_section-count-requires-clause-stands c =
    let o = c.self.inside.rows in
    let r = c.in-Some.head.0 in
    let k = found-some o.order (head_place c.args.dir.now (values_in o.values o.order)) r c.in-Some.ensures in
    subst (λ x. Contains x r) (sym k.2) (mid-contains r k.0 k.1)

pub keep-requires : goal.keep-requires
keep-requires c =
    let i = c.self.inside in
    let o = i.rows in
    let r = c.in-Some.head.0 in
    let k = found-some o.order (head_place c.args.dir.now (values_in o.values o.order)) r c.in-Some.ensures in
    let room : length (reverse i.kept.items) < vec_capacity i.kept = room-left o (reverse i.kept.items) (vec_capacity i.kept) c.self.invariant (some-rows o k.0 r k.1 k.2) in
    let n : length (reverse i.kept.items) ≡ length i.kept.items = length-reverse i.kept.items in
    omega (arith, i.kept.ok.0)

pub invariant_of-self : goal.invariant_of-self
invariant_of-self c =
    let i = c.self.inside in
    let o = i.rows in
    let kept = reverse i.kept.items in
    let dir = c.args.dir.now in
    let r = c.in-Some.head.0 in
    let n = c.take_section-count.result in
    let d = c.rows_differ.ensures in
    let more = vec_capacity c.keep.new.kept in
    let some : 0 < length dir = grind (arith, nat_tests) in
    let k = found-some o.order (head_place dir (values_in o.values o.order)) r c.in-Some.ensures in
    let f = kept-first i.kept.items c.keep.new.kept.items (Kill n) c.keep.ensures.items in
    let h = section-kept i.switches o kept (vec_capacity i.kept) c.self.invariant d.below d.once r n c.take_section-count.new.rows c.take_section-count.ensures dir some k.0 k.1 k.2 k.3 more c.keep.ensures.capacity in
    subst (λ x. IsBuffer c.take_section-count.new.rows x more) (sym f) h

pub returns : goal.returns
returns c =
    let i = c.self.inside in
    let o = i.rows in
    let kept = reverse i.kept.items in
    let dir = c.args.dir.now in
    let r = c.in-Some.head.0 in
    let n = c.take_section-count.result in
    let d = c.rows_differ.ensures in
    let some : 0 < length dir = grind (arith, nat_tests) in
    let k = found-some o.order (head_place dir (values_in o.values o.order)) r c.in-Some.ensures in
    let f = kept-first i.kept.items c.keep.new.kept.items (Kill n) c.keep.ensures.items in
    ap (λ b. section_killed dir b) (sym c.self.view_is)
    ∙ (section-some i.switches o kept (vec_capacity i.kept) c.self.invariant d.below d.once r n c.take_section-count.new.rows c.take_section-count.ensures dir some k.0 k.1 k.2 k.3
    ∙ ap (λ x. Some (seen_as i.switches c.take_section-count.new.rows x)) (sym f))
