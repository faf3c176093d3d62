use Rattle.std.proofs.Common.{◌≡◌, ◌∙◌, sym, ap, length}
use Rattle.section_rows.specs.Orders.{values_in}
use Rattle.section_buffer.specs.Rows.{rows_of}
use Rattle.section_buffer.proofs.RowLemmas.{sections-rows, values-length}
use Rattle.section_buffer.proofs.buffer.Buffer.row_count.Goals as goal

pub returns : goal.returns
returns c =
    let o = c.self.inside.rows in
    let same : values_in o.values o.order ≡ rows_of c.args.self.now.sections =
    sym (sections-rows (values_in o.values o.order) c.self.invariant.root) ∙ ap (λ b. rows_of b.sections) c.self.view_is in
    c.len.ensures ∙ (sym (values-length o.values o.order c.rows_differ.ensures.below) ∙ ap length same)
