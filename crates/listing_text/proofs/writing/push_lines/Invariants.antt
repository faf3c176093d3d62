use Rattle.std.proofs.Common.{◌≡◌, ◌++◌, drop}
use Rattle.listing_text.specs.Listed.{lines_text}
use Rattle.listing_text.proofs.writing.push_lines.Given as goal

abbrev pub invariant-loop-mark : goal.invariant-loop-mark
invariant-loop-mark l = l.text.items ++ lines_text l.widths (drop l.mark-index l.lines) ≡ l.initial.text.items ++ lines_text l.widths l.lines
