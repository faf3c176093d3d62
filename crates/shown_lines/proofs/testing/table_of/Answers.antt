use Rattle.std.proofs.Common.{ap, ◌∙◌, is_some}
use Rattle.std.specs.FinMap.{get}
use Rattle.section_buffer.proofs.PrintLemmas.{table-marks}
use Rattle.shown_lines.proofs.testing.table_of.Goals as goal

pub returns : goal.returns
returns c = λ p.
    ap (λ t. is_some (get t.marks p)) c.in_ok-toggle.ensures.ok ∙ table-marks c.in_ok-table.table.marks c.args.paths.now (ap (λ t. t.marks) c.in_ok-table.ensures) c.toggled_at_each_path.ensures p
