-- A buffer of sections, and what is kept of the rows that were taken out and put in.
use Rattle.std.specs.Prelude.{◌≡◌, ℕ, zero, suc, Bool, true, false, List, [], ◌∷◌, map, take, drop, length, Option, Some, None, Result, Ok, Err, if◌then◌else◌}
use Rattle.std.specs.Option.{option_map}
use Rattle.std.specs.Ordering.{is_lt}
use Rattle.dired_text.specs.Paths.{Names, path_cmp}
use Rattle.listing_text.specs.declared.line.Line.{Line}
use Rattle.listing_text.specs.declared.switches.Switches.{Switches}
use Rattle.section_rows.specs.declared.row.BufferRow.{BufferRow}
use Rattle.section_rows.specs.declared.row.BufferRow.TheVariants.{Head, Line as LineRow}
use Rattle.section_buffer.specs.declared.section.Section.{Section}
use Rattle.section_buffer.specs.declared.ends.BufferEnd.{BufferEnd}
use Rattle.section_buffer.specs.declared.ends.BufferEnd.TheVariants.{NotThere}
use Rattle.section_buffer.specs.Rows.{lines_of, rows_of, sections_of, with_rows, without_rows}
use Rattle.section_buffer.specs.Places.{head_place, line_place, same_names}

-- What happened: these rows were killed, and so many stood before them; or a section was put in behind so many rows, with so many
-- rows of its own, of this directory.
pub data Event : Type 0 where
  Killed : ℕ → List BufferRow → Event
  Inserted : ℕ → ℕ → Names → Event

-- The last event comes first.
pub record BufferState : Type 0 where
  pub switches : Switches
  pub sections : List Section
  pub events : List Event

-- the switches of a buffer of lines, `-Al`
abbrev pub all_lines : Switches
all_lines = record { all = true; by_time = false; by_size = false; reverse = false }

-- these sections, of which nothing can be undone
abbrev pub of_sections : Switches → List Section → BufferState
of_sections switches sections = record { switches = switches; sections = sections; events = [] }

-- the section of the root, shown, with these lines
abbrev pub of_root : Switches → List Line → BufferState
of_root switches lines = of_sections switches (record { dir = []; hidden = false; lines = lines } ∷ [])

-- the section of this directory hidden or shown, or None where there is none
abbrev pub turned_in : Names → Bool → List Section → Option (List Section)
turned_in dir hidden [] = None
turned_in dir hidden (section ∷ sections) =
    if same_names section.dir dir then Some (record { dir = section.dir; hidden = hidden; lines = section.lines } ∷ sections)
    else option_map (λ later. section ∷ later) (turned_in dir hidden sections)

abbrev pub turned : Names → Bool → BufferState → Option BufferState
turned dir hidden b = option_map (λ sections. record { switches = b.switches; sections = sections; events = b.events }) (turned_in dir hidden b.sections)

-- without so many rows behind so many others
abbrev pub killed : ℕ → ℕ → BufferState → BufferState
killed at count b = let rows = rows_of b.sections in record {
  switches = b.switches;
  sections = sections_of (without_rows at count rows);
  events = Killed at (take count (drop at rows)) ∷ b.events;
}

-- without the line of this path, or None where no section that is shown has it
abbrev pub line_killed : Names → BufferState → Option BufferState
line_killed path b = option_map (λ at. killed at 1 b) (line_place path [] true (rows_of b.sections))

-- without the section of this directory, its head and its lines, or None where there is no such section, and for the root
abbrev pub section_killed : Names → BufferState → Option BufferState
section_killed [] b = None
section_killed (name ∷ dir) b = let rows = rows_of b.sections in
    option_map (λ at. killed at (suc (length (lines_of (drop (suc at) rows)))) b) (head_place (name ∷ dir) rows)

-- with the rows of the last kill put back where they stood, or None where the last event is no kill
abbrev pub unkilled_by : List Event → BufferState → Option BufferState
unkilled_by [] b = None
unkilled_by (Inserted at count dir ∷ events) b = None
unkilled_by (Killed at rows ∷ events) b = Some (record {
  switches = b.switches;
  sections = sections_of (with_rows at rows (rows_of b.sections));
  events = events;
})

abbrev pub unkilled : BufferState → Option BufferState
unkilled b = unkilled_by b.events b

-- ---- sections that are put in

-- whether this is the head of a directory behind this one in the order of paths
abbrev pub is_later_head : Names → BufferRow → Bool
is_later_head dir (Head of hidden) = is_lt (path_cmp dir of)
is_later_head dir (LineRow line) = false

-- how many rows stand before the first head of a later directory
abbrev pub later_place : Names → List BufferRow → ℕ
later_place dir [] = 0
later_place dir (row ∷ rows) = if is_later_head dir row then 0 else suc (later_place dir rows)

-- the rows of a section
abbrev pub rows_of_section : Names → Bool → List Line → List BufferRow
rows_of_section dir hidden lines = Head dir hidden ∷ map LineRow lines

-- the rows of a section that is shown
abbrev pub shown_rows : Names → List Line → List BufferRow
shown_rows dir lines = rows_of_section dir false lines

-- with the section of this directory put in before the later ones, shown, with these lines
abbrev pub inserted : Names → List Line → BufferState → BufferState
inserted dir lines b = let rows = rows_of b.sections in let at = later_place dir rows in record {
  switches = b.switches;
  sections = sections_of (with_rows at (shown_rows dir lines) rows);
  events = Inserted at (suc (length lines)) dir ∷ b.events;
}

-- without the section that was put in last, or None where the last event isn't that this directory's was put in
abbrev pub uninserted_by : Names → List Event → BufferState → Option BufferState
uninserted_by dir [] b = None
uninserted_by dir (Killed at rows ∷ events) b = None
uninserted_by dir (Inserted at count of ∷ events) b =
    if same_names of dir then Some (record {
      switches = b.switches;
      sections = sections_of (without_rows at count (rows_of b.sections));
      events = events;
    }) else None

abbrev pub uninserted : Names → BufferState → Option BufferState
uninserted dir b = uninserted_by dir b.events b

-- A call leads to what is wanted, or is refused exactly where that is None, and then changes nothing.
abbrev pub Leads : Option BufferState → Result (Unit {0}) BufferEnd → BufferState → BufferState → Type 0
Leads wanted (Ok done) old new = wanted ≡ Some new
Leads wanted (Err end) old new = (end ≡ NotThere) × (wanted ≡ None) × (new ≡ old)

-- ---- kills one after another

abbrev pub and_then : Option BufferState → (BufferState → Option BufferState) → Option BufferState
and_then None f = None
and_then (Some b) f = f b

-- a kill that is asked for: of the line of a path, or of the section of a directory
pub data Asked : Type 0 where
  LineOf : Names → Asked
  SectionOf : Names → Asked

abbrev pub killed_as : Asked → BufferState → Option BufferState
killed_as (LineOf path) b = line_killed path b
killed_as (SectionOf dir) b = section_killed dir b

-- behind these kills, one after another
abbrev pub all_killed : List Asked → BufferState → Option BufferState
all_killed [] b = Some b
all_killed (kill ∷ kills) b = and_then (killed_as kill b) (all_killed kills)

-- behind so many unkills
abbrev pub all_unkilled : ℕ → BufferState → Option BufferState
all_unkilled zero b = Some b
all_unkilled (suc n) b = and_then (all_unkilled n b) unkilled

-- After any kills as many unkills give back what was there before.
abbrev pub KillsComeBack : BufferState → Type 0
KillsComeBack b = (kills : List Asked) (end : BufferState) → all_killed kills b ≡ Some end → all_unkilled (length kills) end ≡ Some b

-- A section that was put in and taken out again leaves what was there before.
abbrev pub InsertionsComeBack : BufferState → Type 0
InsertionsComeBack b = (dir : Names) (lines : List Line) → uninserted dir (inserted dir lines b) ≡ Some b
