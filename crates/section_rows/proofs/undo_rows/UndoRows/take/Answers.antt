use Rattle.std.proofs.Common.{◌≡◌, ◌+◌, ◌-◌, ◌<◌, ◌≤◌, ◌∙◌, ◌∷◌, ap, sym, subst, reverse, arith, length, vec_capacity}
use Rattle.std.proofs.lemmas.List.{length-reverse}
use Rattle.link_rows.specs.Net.{Unlinks, unlinked}
use Rattle.section_rows.specs.declared.undo.Undo.TheVariants as kept
use Rattle.section_rows.specs.Orders.{taken}
use Rattle.section_rows.specs.Kept.{IsHeld}
use Rattle.section_rows.proofs.StepLemmas.{kept-first, nodes-unlinked, seen-has, seen-same, taken-below, taken-held, taken-some}
use Rattle.section_rows.proofs.undo_rows.UndoRows.take.Goals as goal

pub unlink-requires : goal.unlink-requires
unlink-requires c =
    let i = c.self.inside in
    let us = reverse i.undo.items in
    let m = seen-has i.rows.net i.count i.built i.rows.values us c.args.self.now c.args.row.0 c.self.view_is c.requires in
    let below : c.args.row.0 < i.len = taken-below i.rows.net i.rows.net i.count i.built i.len (vec_capacity i.undo) (vec_capacity i.undo) i.rows.values us c.args.row c.self.invariant.0 m in
    let as_many : length i.rows.values ≡ i.len = c.self.invariant.1 in
    omega arith

pub keep-requires : goal.keep-requires
keep-requires c =
    let i = c.self.inside in
    let us = reverse i.undo.items in
    let m = seen-has i.rows.net i.count i.built i.rows.values us c.args.self.now c.args.row.0 c.self.view_is c.requires in
    let some : 0 < i.count = taken-some i.rows.net i.rows.net i.count i.built i.len (vec_capacity i.undo) (vec_capacity i.undo) i.rows.values us c.args.row c.self.invariant.0 m in
    let n : length us ≡ length i.undo.items = length-reverse i.undo.items in
    let room : length us + i.count + i.built + i.built ≤ vec_capacity i.undo = c.self.invariant.0.room in
    omega (arith, i.undo.ok.0)

pub invariant_of-self : goal.invariant_of-self
invariant_of-self c =
    let i = c.self.inside in
    let s = i.rows.net in
    let t = c.unlink.new.self.net in
    let us = reverse i.undo.items in
    let h = c.self.invariant.0 in
    let r = c.args.row.0 in
    let m = seen-has s i.count i.built i.rows.values us c.args.self.now r c.self.view_is c.requires in
    let e : t ≡ unlinked (3 + r) s = subst (λ k. t ≡ unlinked (k + r) s) h.lists.heads c.unlink.ensures.net in
    let u : Unlinks s (3 + r) t = subst (λ k. Unlinks s (k + r) t) h.lists.heads c.unlink.ensures.lists in
    let k = taken-held s t i.count i.built i.len (vec_capacity i.undo) (vec_capacity c.keep.new.undo) i.rows.values us c.args.row h m e u c.unlink.ensures.heads (nodes-unlinked s t (3 + r) e) c.keep.ensures.capacity in
    let f = kept-first i.undo.items c.keep.new.undo.items (kept.Taken c.args.row) c.keep.ensures.items in
    (subst (λ v. IsHeld t (i.count - 1) i.built i.len (vec_capacity c.keep.new.undo) v) (sym f) k.0, ap length c.unlink.ensures.values ∙ c.self.invariant.1)

pub returns : goal.returns
returns c =
    let i = c.self.inside in
    let s = i.rows.net in
    let t = c.unlink.new.self.net in
    let us = reverse i.undo.items in
    let h = c.self.invariant.0 in
    let r = c.args.row.0 in
    let m = seen-has s i.count i.built i.rows.values us c.args.self.now r c.self.view_is c.requires in
    let e : t ≡ unlinked (3 + r) s = subst (λ k. t ≡ unlinked (k + r) s) h.lists.heads c.unlink.ensures.net in
    let u : Unlinks s (3 + r) t = subst (λ k. Unlinks s (k + r) t) h.lists.heads c.unlink.ensures.lists in
    let k = taken-held s t i.count i.built i.len (vec_capacity i.undo) (vec_capacity c.keep.new.undo) i.rows.values us c.args.row h m e u c.unlink.ensures.heads (nodes-unlinked s t (3 + r) e) c.keep.ensures.capacity in
    let f = kept-first i.undo.items c.keep.new.undo.items (kept.Taken c.args.row) c.keep.ensures.items in
    seen-same t (i.count - 1) i.built i.rows.values c.unlink.new.self.values (kept.Taken c.args.row ∷ us) (reverse c.keep.new.undo.items) c.unlink.ensures.values f ∙ (k.1 ∙ ap (λ v. taken r v) c.self.view_is)

pub overflow_sub-self : goal.overflow_sub-self
overflow_sub-self c =
    let i = c.self.inside in
    let us = reverse i.undo.items in
    let m = seen-has i.rows.net i.count i.built i.rows.values us c.args.self.now c.args.row.0 c.self.view_is c.requires in
    let some : 0 < i.count = taken-some i.rows.net i.rows.net i.count i.built i.len (vec_capacity i.undo) (vec_capacity i.undo) i.rows.values us c.args.row c.self.invariant.0 m in
    omega arith
