use Rattle.std.proofs.Common.{◌≡◌, drop}
use Rattle.std.specs.List.{find}
use Rattle.std.specs.Option.{option_map}
use Rattle.shown_lines.specs.Sections.{has_current}
use Rattle.shown_lines.proofs.sections.paths_from.Given as goal

abbrev pub invariant-loop-section : goal.invariant-loop-section
invariant-loop-section l =
    find (has_current (option_map (λ path. path.now) l.current)) l.sections ≡ find (has_current (option_map (λ path. path.now) l.current)) (drop l.section-index l.sections)
