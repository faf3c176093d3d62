-- The rows of sections: the head of each, and behind it its lines.
use Rattle.std.specs.Prelude.{ℕ, ◌+◌, List, [], ◌∷◌, ◌++◌, map, take, drop}
use Rattle.listing_text.specs.declared.line.Line.{Line as line_type}
use Rattle.section_rows.specs.declared.row.BufferRow.{BufferRow}
use Rattle.section_rows.specs.declared.row.BufferRow.TheVariants.{Head, Line}
use Rattle.section_buffer.specs.declared.section.Section.{Section}

abbrev pub rows_of : List Section → List BufferRow
rows_of [] = []
rows_of (section ∷ sections) = Head section.dir section.hidden ∷ (map Line section.lines ++ rows_of sections)

-- the lines up to the next head
abbrev pub lines_of : List BufferRow → List line_type
lines_of [] = []
lines_of (Head dir hidden ∷ rows) = []
lines_of (Line line ∷ rows) = line ∷ lines_of rows

-- a section for each head, with the lines up to the next one
abbrev pub sections_of : List BufferRow → List Section
sections_of [] = []
sections_of (Head dir hidden ∷ rows) = record { dir = dir; hidden = hidden; lines = lines_of rows } ∷ sections_of rows
sections_of (Line line ∷ rows) = sections_of rows

-- with more rows behind so many
abbrev pub with_rows : ℕ → List BufferRow → List BufferRow → List BufferRow
with_rows at more rows = take at rows ++ (more ++ drop at rows)

-- without so many rows behind so many others
abbrev pub without_rows : ℕ → ℕ → List BufferRow → List BufferRow
without_rows at count rows = take at rows ++ drop (at + count) rows
