use Rattle.std.proofs.Common.{◌≡◌, is_some}
use Rattle.std.specs.FinMap.{get}
use Rattle.section_buffer.specs.Printed.{printed_lines}
use Rattle.section_buffer.proofs.printing.printed_lines.Given as goal

abbrev pub invariant-loop-line : goal.invariant-loop-line
invariant-loop-line l = l.shown.items ≡ printed_lines l.marks.marks (λ p. is_some (get l.omitted.marks p)) l.dir l.yielded
