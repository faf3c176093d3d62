-- What is seen of one of the sections.
use Rattle.std.specs.Prelude.{Bool, List, [], ◌∷◌, Option, Some, None, if◌then◌else◌}
use Rattle.dired_text.specs.Paths.{Names}
use Rattle.section_buffer.specs.declared.section.Section.{Section}
use Rattle.section_buffer.specs.Places.{same_names}

-- whether the section of this directory is hidden, or None where there is none
abbrev pub hidden_at : Names → List Section → Option Bool
hidden_at dir [] = None
hidden_at dir (section ∷ sections) = if same_names section.dir dir then Some section.hidden else hidden_at dir sections
