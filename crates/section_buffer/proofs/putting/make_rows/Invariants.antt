use Rattle.std.proofs.Common.{◌≡◌}
use Rattle.section_buffer.specs.Buffers.{rows_of_section}
use Rattle.section_buffer.specs.Held.{with_made}
use Rattle.section_buffer.proofs.putting.make_rows.Given as goal

abbrev pub invariant-loop-line : goal.invariant-loop-line
invariant-loop-line l = l.rows ≡ with_made (rows_of_section l.fn.dir l.fn.hidden l.yielded) l.fn.rows
