use Rattle.std.proofs.Common.{◌-◌, subst, reverse, vec_capacity}
use Rattle.link_rows.specs.Values.{HasValues}
use Rattle.section_rows.specs.Orders.{values_in}
use Rattle.section_rows.proofs.StepLemmas.{values-held}
use Rattle.section_rows.proofs.undo_rows.UndoRows.rows.Goals as goal

pub returns : goal.returns
returns c =
    let i = c.self.inside in
    subst (λ v. HasValues i.rows 0 (values_in v.values v.order)) c.self.view_is
    (values-held i.rows i.count i.built i.len (vec_capacity i.undo) (reverse i.undo.items) c.self.invariant.0)
