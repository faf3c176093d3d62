use Rattle.std.proofs.Common.{◌≡◌, ◌+◌, ◌-◌, ◌<◌, ◌≤◌, ◌∙◌, ◌∷◌, ap, sym, subst, reverse, arith, length, Contains, vec_capacity}
use Rattle.std.specs.Option.{option_map}
use Rattle.std.proofs.lemmas.List.{length-reverse}
use Rattle.section_rows.specs.declared.undo.Undo.TheVariants as kept
use Rattle.link_rows.specs.Tables.{place_of}
use Rattle.section_rows.specs.Orders.{put_in, run}
use Rattle.section_rows.specs.Kept.{IsHeld}
use Rattle.section_rows.proofs.StepLemmas.{held-order, if-some, if-some-row, kept-first, nodes-spliced, put-held, seen-has, seen-same, spot, taken-below}
use Rattle.section_rows.proofs.undo_rows.UndoRows.put.Goals as goal

pub overflow_sub-first : goal.overflow_sub-first
overflow_sub-first c = omega (arith, c.self.invariant.0.few)

pub splice-requires-clause-made : goal.splice-requires-clause-made
splice-requires-clause-made c = omega (arith, c.self.invariant.0.lists.heads)

pub splice-requires-clause-other_made : goal.splice-requires-clause-other_made
splice-requires-clause-other_made c = omega (arith, c.self.invariant.0.lists.heads)

pub splice-requires-clause-pushed : goal.splice-requires-clause-pushed
splice-requires-clause-pushed c =
    let i = c.self.inside in
    let s = i.rows.net in
    let us = reverse i.undo.items in
    let as_many : length i.rows.values ≡ i.len = c.self.invariant.1 in
    if-some {P = λ row. Contains c.args.self.now.order row.0} {Q = λ row. row.0 < length i.rows.values} c.args.after
    (λ row m. subst (λ n. row.0 < n) (sym as_many) (taken-below s s i.count i.built i.len (vec_capacity i.undo) (vec_capacity i.undo) i.rows.values us row c.self.invariant.0 (seen-has s i.count i.built i.rows.values us c.args.self.now row.0 c.self.view_is m)))
    c.requires.after

pub keep-requires : goal.keep-requires
keep-requires c =
    let i = c.self.inside in
    let s = i.rows.net in
    let h = c.self.invariant.0 in
    let us = reverse i.undo.items in
    let after = option_map (λ row. row.0) c.args.after in
    let some : 0 < i.built = subst (λ v. 0 < v.built) (sym c.self.view_is) c.requires.some in
    let n : length us ≡ length i.undo.items = length-reverse i.undo.items in
    let room : length us + i.count + i.built + i.built ≤ vec_capacity i.undo = h.room in
    omega (arith, i.undo.ok.0)

pub overflow_add-self : goal.overflow_add-self
overflow_add-self c =
    let i = c.self.inside in
    let room : length (reverse i.undo.items) + i.count + i.built + i.built ≤ vec_capacity i.undo = c.self.invariant.0.room in
    omega (arith, i.undo.small)

pub invariant_of-self : goal.invariant_of-self
invariant_of-self c =
    let i = c.self.inside in
    let s = i.rows.net in
    let h = c.self.invariant.0 in
    let us = reverse i.undo.items in
    let after = option_map (λ row. row.0) c.args.after in
    let some : 0 < i.built = subst (λ v. 0 < v.built) (sym c.self.view_is) c.requires.some in
    let t = c.splice.new.self.net in
    let e = c.splice.ensures in
    let there = if-some-row (λ r. Contains h.order r) c.args.after (if-some {P = λ row. Contains c.args.self.now.order row.0} {Q = λ row. Contains h.order row.0} c.args.after (λ row m. subst (λ o. Contains o row.0) (held-order s i.count i.built i.len (vec_capacity i.undo) us h) (seen-has s i.count i.built i.rows.values us c.args.self.now row.0 c.self.view_is m)) c.requires.after) in
    let sp = spot s h.order (run (i.len - i.built) i.built) after h.lists.heads there in
    let k = put-held s t i.count i.built i.len (vec_capacity i.undo) (vec_capacity c.keep.new.undo) i.rows.values us after (place_of s 0 after) sp.0 sp.1 h some sp.2.parts sp.2.last sp.2.placed c.self.invariant.1 e.net e.lists e.heads (nodes-spliced s t (place_of s 0 after) 1 e.net) c.keep.ensures.capacity in
    let f = kept-first i.undo.items c.keep.new.undo.items (kept.Put (i.len - i.built) i.built) c.keep.ensures.items in
    (subst (λ v. IsHeld t (i.count + i.built) 0 i.len (vec_capacity c.keep.new.undo) v) (sym f) k.0, ap length e.values ∙ c.self.invariant.1)

pub returns : goal.returns
returns c =
    let i = c.self.inside in
    let s = i.rows.net in
    let h = c.self.invariant.0 in
    let us = reverse i.undo.items in
    let after = option_map (λ row. row.0) c.args.after in
    let some : 0 < i.built = subst (λ v. 0 < v.built) (sym c.self.view_is) c.requires.some in
    let t = c.splice.new.self.net in
    let e = c.splice.ensures in
    let there = if-some-row (λ r. Contains h.order r) c.args.after (if-some {P = λ row. Contains c.args.self.now.order row.0} {Q = λ row. Contains h.order row.0} c.args.after (λ row m. subst (λ o. Contains o row.0) (held-order s i.count i.built i.len (vec_capacity i.undo) us h) (seen-has s i.count i.built i.rows.values us c.args.self.now row.0 c.self.view_is m)) c.requires.after) in
    let sp = spot s h.order (run (i.len - i.built) i.built) after h.lists.heads there in
    let k = put-held s t i.count i.built i.len (vec_capacity i.undo) (vec_capacity c.keep.new.undo) i.rows.values us after (place_of s 0 after) sp.0 sp.1 h some sp.2.parts sp.2.last sp.2.placed c.self.invariant.1 e.net e.lists e.heads (nodes-spliced s t (place_of s 0 after) 1 e.net) c.keep.ensures.capacity in
    let f = kept-first i.undo.items c.keep.new.undo.items (kept.Put (i.len - i.built) i.built) c.keep.ensures.items in
    seen-same t (i.count + i.built) 0 i.rows.values c.splice.new.self.values (kept.Put (i.len - i.built) i.built ∷ us) (reverse c.keep.new.undo.items) e.values f ∙ (k.1 ∙ ap (λ v. put_in after v) c.self.view_is)
