use Rattle.std.proofs.Common.{◌≡◌, is_some}
use Rattle.std.specs.FinMap.{get}
use Rattle.section_buffer.specs.Printed.{printed}
use Rattle.section_buffer.proofs.printing.text_without.Given as goal

abbrev pub invariant-loop-section : goal.invariant-loop-section
invariant-loop-section l = l.text.items ≡ printed l.marks.marks (λ p. is_some (get l.omitted.marks p)) l.yielded
