use Rattle.std.proofs.Common.{◌≡◌, ◌++◌, drop}
use Rattle.std.specs.List.{filter_map}
use Rattle.dired_text.specs.Resolve.{resolved}
use Rattle.shown_lines.specs.Sections.{path_in}
use Rattle.shown_lines.proofs.sections.paths_of.Given as goal

abbrev pub invariant-loop-line : goal.invariant-loop-line
invariant-loop-line l = l.paths.items ++ filter_map (λ line. path_in (resolved l.dir line.name)) (drop l.line-index l.lines) ≡ filter_map (λ line. path_in (resolved l.dir line.name)) l.lines
