use Rattle.std.proofs.Common.{ap, reverse, vec_capacity}
use Rattle.section_rows.proofs.WalkLemmas.{length-held}
use Rattle.section_rows.proofs.undo_rows.UndoRows.len.Goals as goal

pub returns : goal.returns
returns c =
    let i = c.self.inside in
    length-held i.rows.net i.count i.built i.len (vec_capacity i.undo) (reverse i.undo.items) c.self.invariant.0 c.args.self.now.order (ap (λ v. v.order) c.self.view_is)
