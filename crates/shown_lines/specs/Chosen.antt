-- The marked lines among the shown ones, and the chosen ones.
use Rattle.std.specs.Prelude.{ℕ, Bool, false, List, [], ◌∷◌, filter, Option, Some, None}
use Rattle.std.specs.List.{list_any}
use Rattle.dired_text.specs.Paths.{Names}
use Rattle.mark_table.specs.PathMarks.{PathMarks, has_mark, star}
use Rattle.section_buffer.specs.Places.{same_names}
use Rattle.shown_lines.specs.declared.entry.Entry.{Entry}

-- the entries with `*`
abbrev pub starred : PathMarks → List Entry → List Entry
starred marks entries = filter (λ (e : Entry). has_mark marks (Some star) e.path) entries

-- whether this is the line of the current path
abbrev pub is_current : Option Names → Entry → Bool
is_current None e = false
is_current (Some p) e = same_names e.path p

abbrev pub has_path : Names → List Entry → Bool
has_path p entries = list_any (is_current (Some p)) entries

abbrev pub or_else : List Entry → List Entry → List Entry
or_else others [] = others
or_else others (e ∷ es) = e ∷ es

-- the entries with `*` in their order, or where there is none that of the current path
abbrev pub chosen_of : PathMarks → Option Names → List Entry → List Entry
chosen_of marks current entries = or_else (filter (is_current current) entries) (starred marks entries)
