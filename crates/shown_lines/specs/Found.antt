-- The line of a path among the lines of sections.
use Rattle.std.specs.Prelude.{Bool, false, not, ◌&&◌, List, Option, Result, Ok, Err}
use Rattle.std.specs.List.{list_any}
use Rattle.dired_text.specs.Paths.{Names}
use Rattle.dired_text.specs.Resolve.{resolved}
use Rattle.dired_text.specs.declared.resolving.NameError.{NameError}
use Rattle.listing_text.specs.declared.line.Line.{Line}
use Rattle.section_buffer.specs.Places.{same_names}
use Rattle.section_buffer.specs.declared.section.Section.{Section}

abbrev pub is_path : Names → Result Names NameError → Bool
is_path p (Ok q) = same_names q p
is_path p (Err refused) = false

-- a line of this directory has this path
abbrev pub has_line : Names → Names → List Line → Bool
has_line p dir lines = list_any (λ (line : Line). is_path p (resolved dir line.name)) lines

-- a section that isn't hidden has the line of this path
abbrev pub is_in : Names → Section → Bool
is_in p section = not section.hidden && has_line p section.dir section.lines
