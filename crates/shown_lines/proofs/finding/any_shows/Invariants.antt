use Rattle.std.proofs.Common.{◌≡◌, drop}
use Rattle.std.specs.List.{list_any}
use Rattle.shown_lines.specs.Found.{is_in}
use Rattle.shown_lines.proofs.finding.any_shows.Given as goal

abbrev pub invariant-loop-section : goal.invariant-loop-section
invariant-loop-section l = list_any (is_in l.path) l.sections ≡ list_any (is_in l.path) (drop l.section-index l.sections)
