-- The section of the current file.
use Rattle.std.specs.Prelude.{Bool, false, List, [], ◌∷◌, Option, Some, None, Result, Ok, Err}
use Rattle.std.specs.List.{filter_map, find, list_any}
use Rattle.dired_text.specs.Paths.{Names}
use Rattle.dired_text.specs.Resolve.{resolved}
use Rattle.dired_text.specs.declared.resolving.NameError.{NameError}
use Rattle.listing_text.specs.declared.line.Line.{Line}
use Rattle.section_buffer.specs.Places.{same_names}
use Rattle.section_buffer.specs.declared.section.Section.{Section}

abbrev pub path_in : Result Names NameError → Option Names
path_in (Ok path) = Some path
path_in (Err refused) = None

-- the paths of all lines of a section, shown or not
abbrev pub section_paths : Section → List Names
section_paths section = filter_map (λ (line : Line). path_in (resolved section.dir line.name)) section.lines

abbrev pub has_current : Option Names → Section → Bool
has_current None section = false
has_current (Some p) section = list_any (same_names p) (section_paths section)

-- the first section is that of the root
abbrev pub paths_or_root : List Section → Option Section → List Names
paths_or_root sections (Some section) = section_paths section
paths_or_root [] None = []
paths_or_root (root ∷ sections) None = section_paths root

-- the paths of the section that has the current file, else of the root's
abbrev pub current_paths : Option Names → List Section → List Names
current_paths current sections = paths_or_root sections (find (has_current current) sections)
