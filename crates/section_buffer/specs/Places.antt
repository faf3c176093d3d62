-- Where rows stand: by how many rows before them.
use Rattle.std.specs.Prelude.{ℕ, suc, Bool, false, not, ◌&&◌, List, [], ◌∷◌, Option, Some, None, if◌then◌else◌, nat_eq}
use Rattle.std.specs.Option.{option_map}
use Rattle.std.specs.Cmp.Lexicographic.{pointwise}
use Rattle.dired_text.specs.Paths.{Names, rest_below}
use Rattle.dired_text.specs.Resolve.{components}
use Rattle.listing_text.specs.declared.line.Line.{Line as line_type}
use Rattle.section_rows.specs.declared.row.BufferRow.{BufferRow}
use Rattle.section_rows.specs.declared.row.BufferRow.TheVariants.{Head, Line}

abbrev pub same_names : Names → Names → Bool
same_names p q = pointwise (pointwise nat_eq) p q

-- these names, where there are any, are the parts of a text between its slashes
abbrev pub are_parts : Option Names → List ℕ → Bool
are_parts None text = false
are_parts (Some names) text = same_names names (components text)

-- Whether a line of this directory is that of the path: what is left of the path behind the directory is the line's name.
abbrev pub is_line_of : Names → Names → line_type → Bool
is_line_of path dir line = are_parts (rest_below dir path) line.name

abbrev pub is_head_of : Names → BufferRow → Bool
is_head_of dir (Head of hidden) = same_names of dir
is_head_of dir (Line line) = false

-- where the section of this directory begins
abbrev pub head_place : Names → List BufferRow → Option ℕ
head_place dir [] = None
head_place dir (row ∷ rows) = if is_head_of dir row then Some 0 else option_map suc (head_place dir rows)

-- where the line of this path stands in a section that is shown, behind the head of a section
abbrev pub line_place : Names → Names → Bool → List BufferRow → Option ℕ
line_place path dir hidden [] = None
line_place path dir hidden (Head next is_hidden ∷ rows) = option_map suc (line_place path next is_hidden rows)
line_place path dir hidden (Line line ∷ rows) =
    if not hidden && is_line_of path dir line then Some 0 else option_map suc (line_place path dir hidden rows)
