use Rattle.std.proofs.Common.{◌≡◌, ℕ, List, IfOk, is_some, subst}
use Rattle.std.specs.FinMap.{get}
use Rattle.mark_table.specs.PathMarks.{is_among}
use Rattle.section_buffer.proofs.PrintLemmas.{printed-same}
use Rattle.section_buffer.proofs.printing.text_of.Goals as goal

pub returns : goal.returns
returns c =
    subst (λ (b : List ℕ). IfOk c.text_without.result (λ text. text ≡ b))
    (printed-same c.args.marks.now.marks (λ p. is_some (get c.in_ok-table.table.marks p)) (λ p. is_among p c.args.omitted.now) c.in_ok-table.ensures c.args.sections.items)
    c.text_without.ensures
