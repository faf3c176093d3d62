use Rattle.std.proofs.Common.{◌≡◌, ◌∷◌, [], length}
use Rattle.section_buffer.specs.Rows.{rows_of}
use Rattle.session_sections.specs.Sections.{without_lines}
use Rattle.session_sections.specs.Held.{LinesKilled}
use Rattle.session_sections.proofs.steps.kill_path.Given as goal

abbrev pub invariant-loop : goal.invariant-loop
invariant-loop l = record {
  lines : without_lines (l.path ∷ []) l.buffer.sections ≡ without_lines (l.path ∷ []) l.fn.buffer.sections;
  kills : LinesKilled l.fn.buffer l.buffer;
}

abbrev pub decreases-loop : goal.decreases-loop
decreases-loop l = length (rows_of l.buffer.sections)
