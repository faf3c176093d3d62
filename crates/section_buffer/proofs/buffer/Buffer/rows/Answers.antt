use Rattle.std.proofs.Common.{◌≡◌, ◌∙◌, sym, ap, subst}
use Rattle.link_rows.specs.Values.{HasValues}
use Rattle.section_rows.specs.Orders.{values_in}
use Rattle.section_buffer.specs.Rows.{rows_of}
use Rattle.section_buffer.proofs.RowLemmas.{sections-rows}
use Rattle.section_buffer.proofs.buffer.Buffer.rows.Goals as goal

pub returns : goal.returns
returns c =
    let o = c.self.inside.rows in
    let same : values_in o.values o.order ≡ rows_of c.args.self.now.sections =
    sym (sections-rows (values_in o.values o.order) c.self.invariant.root) ∙ ap (λ b. rows_of b.sections) c.self.view_is in
    subst (λ rows. HasValues c.rows.result.now 0 rows) same c.rows.ensures
