use Rattle.std.proofs.Common.{◌≡◌, drop}
use Rattle.session_sections.specs.Sections.{without_lines}
use Rattle.session_sections.specs.Held.{LinesKilled}
use Rattle.session_sections.proofs.steps.kill_paths.Given as goal

abbrev pub invariant-loop-path : goal.invariant-loop-path
invariant-loop-path l = record {
  lines : without_lines (drop l.path-index l.paths) l.buffer.sections ≡ without_lines l.paths l.fn.buffer.sections;
  kills : LinesKilled l.fn.buffer l.buffer;
}
