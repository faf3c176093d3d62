use Rattle.std.proofs.Common.{◌≡◌, ◌≤◌, ◌+◌, length}
use Rattle.script_words.specs.Lines.{lines, in_front, max_lines, script_of, texts_from}
use Rattle.script_words.proofs.script.read_script.Given as goal

abbrev pub invariant-loop-line : goal.invariant-loop-line
invariant-loop-line l = record {
  so_far : script_of l.bytes ≡ in_front l.lines.items (texts_from l.number (lines l.rest));
  few : length l.lines.items + length (lines l.rest) ≤ max_lines;
  count : l.number ≡ length l.lines.items + 1;
}

abbrev pub decreases-loop-line : goal.decreases-loop-line
decreases-loop-line l = length l.rest
