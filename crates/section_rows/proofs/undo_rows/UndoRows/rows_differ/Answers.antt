use Rattle.std.proofs.Common.{◌≡◌, ◌∙◌, ap, sym, subst, length, reverse, vec_capacity}
use Rattle.section_rows.specs.Orders.{AreOut}
use Rattle.section_rows.proofs.WalkLemmas.{below-held, once-held, out-held}
use Rattle.section_rows.proofs.undo_rows.UndoRows.rows_differ.Goals as goal

pub returns-clause-below : goal.returns-clause-below
returns-clause-below c =
    let i = c.self.inside in
    let as_many : length i.rows.values ≡ i.len = c.self.invariant.1 in
    let values : length c.args.self.now.values ≡ length i.rows.values = ap (λ v. length v.values) (sym c.self.view_is) in
    below-held i.rows.net i.count i.built i.len (vec_capacity i.undo) (reverse i.undo.items) c.self.invariant.0 c.args.self.now.order (ap (λ v. v.order) c.self.view_is)
    (length c.args.self.now.values) (values ∙ as_many)

pub returns-clause-once : goal.returns-clause-once
returns-clause-once c =
    let i = c.self.inside in
    once-held i.rows.net i.count i.built i.len (vec_capacity i.undo) (reverse i.undo.items) c.self.invariant.0 c.args.self.now.order (ap (λ v. v.order) c.self.view_is)

pub returns-clause-out : goal.returns-clause-out
returns-clause-out c =
    let i = c.self.inside in
    let order = c.args.self.now.order in
    subst (λ v. AreOut order v.steps) c.self.view_is
    (out-held i.rows.net i.count i.built i.len (vec_capacity i.undo) (reverse i.undo.items) c.self.invariant.0 order (ap (λ v. v.order) c.self.view_is))
