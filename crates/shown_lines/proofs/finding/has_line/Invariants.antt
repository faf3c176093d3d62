use Rattle.std.proofs.Common.{◌≡◌, drop}
use Rattle.shown_lines.specs.Found.{has_line}
use Rattle.shown_lines.proofs.finding.has_line.Given as goal

abbrev pub invariant-loop-line : goal.invariant-loop-line
invariant-loop-line l = has_line l.path l.dir l.lines ≡ has_line l.path l.dir (drop l.line-index l.lines)
