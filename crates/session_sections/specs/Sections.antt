-- Sections of a buffer: taken out, hidden or shown, and lines taken out.
use Rattle.std.specs.Prelude.{Bool, not, List, map, filter, if◌then◌else◌}
use Rattle.std.specs.List.{list_any}
use Rattle.dired_text.specs.Paths.{Names}
use Rattle.listing_text.specs.declared.line.Line.{Line}
use Rattle.section_buffer.specs.declared.section.Section.{Section}
use Rattle.section_buffer.specs.Places.{is_line_of, same_names}

abbrev pub has_dir : Names → Section → Bool
has_dir dir section = same_names section.dir dir

abbrev pub is_section : Names → List Section → Bool
is_section dir sections = list_any (has_dir dir) sections

-- without the section of this directory
abbrev pub without_section : Names → List Section → List Section
without_section dir sections = filter (λ (section : Section). not (has_dir dir section)) sections

-- with the section of this directory shown where it was hidden, and hidden where it was shown
abbrev pub turned_if : Names → Section → Section
turned_if dir section = if has_dir dir section then record { dir = section.dir; hidden = not section.hidden; lines = section.lines } else section

abbrev pub turned : Names → List Section → List Section
turned dir sections = map (turned_if dir) sections

-- whether a line of this directory is that of one of these paths
abbrev pub is_line_among : List Names → Names → Line → Bool
is_line_among paths dir line = list_any (λ path. is_line_of path dir line) paths

-- without the lines of these paths, where they are shown
abbrev pub without_shown : List Names → Section → Section
without_shown paths section =
    if section.hidden then section
    else record { dir = section.dir; hidden = section.hidden; lines = filter (λ (line : Line). not (is_line_among paths section.dir line)) section.lines }

abbrev pub without_lines : List Names → List Section → List Section
without_lines paths sections = map (without_shown paths) sections
