-- The lines that are omitted.
use Rattle.std.specs.Prelude.{List, [], Option, Some, None, Result, Ok, Err, flat_map, if◌then◌else◌}
use Rattle.std.specs.List.{filter_map}
use Rattle.dired_text.specs.Paths.{Names}
use Rattle.dired_text.specs.Resolve.{resolved}
use Rattle.dired_text.specs.declared.resolving.NameError.{NameError}
use Rattle.listing_text.specs.declared.line.Line.{Line}
use Rattle.mark_table.specs.PathMarks.{PathMarks}
use Rattle.omit_rules.specs.declared.rules.Rules.{Rules}
use Rattle.section_buffer.specs.declared.section.Section.{Section}
use Rattle.shown_lines.specs.Shown.{omits}

module _ (rules : Option Rules) (marks : PathMarks) where
  abbrev pub omitted_at : Result Names NameError → Option Names
  omitted_at (Ok path) = if omits rules marks path then Some path else None
  omitted_at (Err refused) = None

  -- the paths of the lines of a directory that are omitted
  abbrev pub omitted_lines : Names → List Line → List Names
  omitted_lines dir lines = filter_map (λ (line : Line). omitted_at (resolved dir line.name)) lines

  -- and of a section; a hidden one has none
  abbrev pub omitted_in : Section → List Names
  omitted_in section = if section.hidden then [] else omitted_lines section.dir section.lines

  abbrev pub omitted_of : List Section → List Names
  omitted_of sections = flat_map omitted_in sections
