use Rattle.std.proofs.Common.{◌-◌, ◌≤◌, ◌∙◌, [], ap, sym, subst, refl, reverse, arith, vec_capacity}
use Rattle.section_rows.specs.Orders.{forgotten}
use Rattle.section_rows.specs.Kept.{IsHeld}
use Rattle.section_rows.proofs.StepLemmas.{forgotten-held, seen-same}
use Rattle.section_rows.proofs.undo_rows.UndoRows.forget.Goals as goal

pub invariant_of-self : goal.invariant_of-self
invariant_of-self c =
    let i = c.self.inside in
    let wide : vec_capacity i.undo ≤ vec_capacity c.clear.new.self = omega (arith, c.clear.ensures.capacity) in
    let k = forgotten-held i.rows.net i.count i.built i.len (vec_capacity i.undo) (vec_capacity c.clear.new.self) (reverse i.undo.items) c.self.invariant.0 wide in
    (subst (λ v. IsHeld i.rows.net i.count i.built i.len (vec_capacity c.clear.new.self) (reverse v)) (sym c.clear.ensures.items) k, c.self.invariant.1)

pub returns : goal.returns
returns c =
    let i = c.self.inside in
    seen-same i.rows.net i.count i.built i.rows.values i.rows.values [] (reverse c.clear.new.self.items) refl (ap reverse c.clear.ensures.items)
    ∙ ap (λ v. forgotten v) c.self.view_is
