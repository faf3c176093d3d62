use Rattle.std.proofs.Common.{◌≡◌, ◌∙◌, List, ap, false}
use Rattle.std.proofs.lemmas.Result.{IfOk-weaker}
use Rattle.dired_text.specs.Paths.{Names}
use Rattle.listing_text.specs.declared.line.Line.{Line}
use Rattle.section_rows.specs.declared.row.BufferRow.{BufferRow}
use Rattle.section_rows.specs.Orders.{Ordered}
use Rattle.section_buffer.specs.Rows.{sections_of}
use Rattle.section_buffer.specs.Buffers.{of_root, of_sections, rows_of_section}
use Rattle.section_buffer.proofs.BufferLemmas.{made-whole, root-sections}
use Rattle.section_buffer.proofs.buffer.Buffer.with_lines.Goals as goal

pub returns : goal.returns
returns c =
    let switches = c.args.switches in
    let lines : List Line = c.args.lines.items in
    let rows : Ordered = c.make_rows.new.rows in
    let dir : Names = c.root.result in
    let m = made-whole rows c.in_ok-rows.rows (rows_of_section dir false lines) c.in_ok-rows.ensures c.in_ok-make_rows.ensures.1 in
    let all : of_sections switches (sections_of rows.values) ≡ of_root switches lines =
    ap (λ (vs : List BufferRow). of_sections switches (sections_of vs)) m.1
    ∙ (ap (λ (d : Names). of_sections switches (sections_of (rows_of_section d false lines))) c.root.ensures ∙ root-sections switches lines) in
    IfOk-weaker c.of_rows.result _ _ (λ b is. is ∙ all) c.of_rows.ensures
