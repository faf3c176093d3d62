use Rattle.std.proofs.Common.{◌≡◌, ◌≤◌, ◌+◌, length}
use Rattle.wdired_buffer.specs.Lines.{lines, in_front}
use Rattle.wdired_buffer.specs.Buffer.{buffer_of, lines_from, max_lines}
use Rattle.wdired_buffer.proofs.reading.read_buffer.Given as goal

abbrev pub invariant-loop-text : goal.invariant-loop-text
invariant-loop-text l = record {
  so_far : buffer_of l.bytes ≡ in_front l.all.items (lines_from l.number l.due (lines l.rest));
  few : length l.all.items + length (lines l.rest) ≤ max_lines;
  count : l.number + length l.rest ≤ length l.bytes + 1;
}

abbrev pub decreases-loop-text : goal.decreases-loop-text
decreases-loop-text l = length l.rest
