use Rattle.std.proofs.Common.{◌-◌, ◌∙◌, ap, refl, reverse, arith, length, vec_capacity}
use Rattle.section_rows.specs.Orders.{given_up}
use Rattle.section_rows.proofs.StepLemmas.{given-up-held, nodes-spliced, seen-same}
use Rattle.section_rows.proofs.undo_rows.UndoRows.give_up.Goals as goal

pub splice-requires-clause-made : goal.splice-requires-clause-made
splice-requires-clause-made c = omega (arith, c.self.invariant.0.lists.heads)

pub splice-requires-clause-other_made : goal.splice-requires-clause-other_made
splice-requires-clause-other_made c = omega (arith, c.self.invariant.0.lists.heads)

pub invariant_of-self : goal.invariant_of-self
invariant_of-self c =
    let i = c.self.inside in
    let s = i.rows.net in
    let t = c.splice.new.self.net in
    let e = c.splice.ensures in
    let k = given-up-held s t i.count i.built i.len (vec_capacity i.undo) i.rows.values (reverse i.undo.items) c.self.invariant.0 e.net e.lists e.heads (nodes-spliced s t 2 1 e.net) in
    (k.0, ap length e.values ∙ c.self.invariant.1)

pub returns : goal.returns
returns c =
    let i = c.self.inside in
    let s = i.rows.net in
    let t = c.splice.new.self.net in
    let e = c.splice.ensures in
    let us = reverse i.undo.items in
    let k = given-up-held s t i.count i.built i.len (vec_capacity i.undo) i.rows.values us c.self.invariant.0 e.net e.lists e.heads (nodes-spliced s t 2 1 e.net) in
    seen-same t i.count 0 i.rows.values c.splice.new.self.values us us e.values refl ∙ (k.1 ∙ ap (λ v. given_up v) c.self.view_is)
