use Rattle.std.proofs.Common.{◌≡◌, ◌≤◌, ◌∙◌, ◌++◌, ◌∷◌, [], List, sym, ap, subst, arith, reverse, vec_capacity, Some}
use Rattle.section_rows.specs.Orders.{Ordered}
use Rattle.section_buffer.specs.declared.kept.Kept.{Kept}
use Rattle.section_buffer.specs.declared.kept.Kept.TheVariants.{Kill}
use Rattle.section_buffer.specs.Buffers.{unkilled}
use Rattle.section_buffer.specs.Held.{IsBuffer, seen_as}
use Rattle.section_buffer.proofs.BufferLemmas.{held-wider, kept-first}
use Rattle.section_buffer.proofs.KillLemmas.{back-held, back-seen, back-undone, with_them}
use Rattle.section_buffer.proofs.buffer.Buffer.unkill.Goals as goal

pub invariant_of-self : goal.invariant_of-self
invariant_of-self c =
    let i = c.self.inside in
    let o = i.rows in
    let n = c.in-Some-Kill-pop.count in
    let items = c.pop.new.self.items in
    let room = vec_capacity i.kept in
    let below = c.rows_differ.ensures.below in
    let wide : room ≤ vec_capacity c.pop.new.self = omega (arith, c.pop.ensures.capacity) in
    let f : reverse i.kept.items ≡ Kill n ∷ reverse items = kept-first items i.kept.items (Kill n) (c.in-Some-Kill-pop.ensures.items ∙ ap (λ u. items ++ u ∷ []) c.in-Some-Kill-pop.field-0-is) in
    let h : IsBuffer o (Kill n ∷ reverse items) room = subst (λ (k : List Kept). IsBuffer o k room) f c.self.invariant in
    let is : c.undo_kill.new.rows ≡ with_them i.switches o n (reverse items) room h below = c.undo_kill.ensures ∙ back-undone i.switches o n (reverse items) room h below in
    subst (λ (x : Ordered). IsBuffer x (reverse items) (vec_capacity c.pop.new.self)) (sym is)
    (held-wider (with_them i.switches o n (reverse items) room h below) (reverse items) room (vec_capacity c.pop.new.self) (back-held i.switches o n (reverse items) room h below) wide)

pub returns-in-Some-Kill-pop : goal.returns-in-Some-Kill-pop
returns-in-Some-Kill-pop c =
    let i = c.self.inside in
    let o = i.rows in
    let n = c.in-Some-Kill-pop.count in
    let items = c.pop.new.self.items in
    let room = vec_capacity i.kept in
    let below = c.rows_differ.ensures.below in
    let f : reverse i.kept.items ≡ Kill n ∷ reverse items = kept-first items i.kept.items (Kill n) (c.in-Some-Kill-pop.ensures.items ∙ ap (λ u. items ++ u ∷ []) c.in-Some-Kill-pop.field-0-is) in
    let h : IsBuffer o (Kill n ∷ reverse items) room = subst (λ (k : List Kept). IsBuffer o k room) f c.self.invariant in
    let is : c.undo_kill.new.rows ≡ with_them i.switches o n (reverse items) room h below = c.undo_kill.ensures ∙ back-undone i.switches o n (reverse items) room h below in
    ap unkilled (sym c.self.view_is)
    ∙ (ap (λ (k : List Kept). unkilled (seen_as i.switches o k)) f
    ∙ (back-seen i.switches o n (reverse items) room h below ∙ ap (λ (x : Ordered). Some (seen_as i.switches x (reverse items))) (sym is)))
