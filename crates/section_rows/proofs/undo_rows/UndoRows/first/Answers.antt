use Rattle.std.proofs.Common.{ap, arith, reverse, Contains, vec_capacity}
use Rattle.std.specs.Option.{option_map}
use Rattle.section_rows.proofs.WalkLemmas.{first-held, some-row}
use Rattle.section_rows.proofs.undo_rows.UndoRows.first.Goals as goal

pub first-requires : goal.first-requires
first-requires c = omega (arith, c.self.invariant.0.lists.heads)

pub returns-clause-within : goal.returns-clause-within
returns-clause-within c =
    let i = c.self.inside in
    let f = option_map (λ row. row.0) c.first.result in
    some-row (λ r. Contains c.args.self.now.order r) c.first.result
    (first-held i.rows.net i.count i.built i.len (vec_capacity i.undo) (reverse i.undo.items) c.self.invariant.0 c.args.self.now.order (ap (λ v. v.order) c.self.view_is) f c.first.ensures.row).0

pub returns-clause-rest : goal.returns-clause-rest
returns-clause-rest c =
    let i = c.self.inside in
    let f = option_map (λ row. row.0) c.first.result in
    (first-held i.rows.net i.count i.built i.len (vec_capacity i.undo) (reverse i.undo.items) c.self.invariant.0 c.args.self.now.order (ap (λ v. v.order) c.self.view_is) f c.first.ensures.row).1
