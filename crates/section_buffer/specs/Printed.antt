-- The text of a buffer.
use Rattle.std.specs.Prelude.{◌≡◌, ℕ, List, ◌∷◌, ◌++◌, Bool, false, Option, Some, None, Result, Ok, Err, codes, flat_map, if◌then◌else◌}
use Rattle.std.specs.FinMap.{get}
use Rattle.std.specs.List.{filter_map}
use Rattle.std.specs.Option.{unwrap_or}
use Rattle.dired_text.specs.Counts.{raised}
use Rattle.dired_text.specs.Outside.{TakesPartOf}
use Rattle.dired_text.specs.Paths.{Names}
use Rattle.dired_text.specs.Resolve.{resolved}
use Rattle.dired_text.specs.declared.resolving.NameError.{NameError}
use Rattle.listing_text.specs.Listed.{header_text_of, section_text_of}
use Rattle.listing_text.specs.declared.line.Line.{Line as line_type}
use Rattle.mark_table.specs.PathMarks.{PathMarks}
use Rattle.section_buffer.specs.declared.ends.PrintEnd.{PrintEnd}
use Rattle.section_buffer.specs.declared.ends.PrintEnd.TheVariants.{Failed, Memory}
use Rattle.section_buffer.specs.declared.section.Section.{Section}

-- the mark of a path, and a space where there is none, or no path
abbrev pub mark_at : PathMarks → Result Names NameError → ℕ
mark_at marks (Ok path) = unwrap_or (get marks path) 32
mark_at marks (Err refused) = 32

abbrev pub is_left_out : (Names → Bool) → Result Names NameError → Bool
is_left_out omitted (Ok path) = omitted path
is_left_out omitted (Err refused) = false

-- a line with its mark, or None where its path is one of those that are left out
abbrev pub printed_at : PathMarks → (Names → Bool) → Result Names NameError → line_type → Option (ℕ × line_type)
printed_at marks omitted path line = if is_left_out omitted path then None else Some (mark_at marks path, line)

-- the lines of a directory that are printed, each with the mark of the path that its name has from the directory
abbrev pub printed_lines : PathMarks → (Names → Bool) → Names → List line_type → List (ℕ × line_type)
printed_lines marks omitted dir lines = filter_map (λ (line : line_type). printed_at marks omitted (resolved dir line.name) line) lines

-- the text of a section; of a hidden one the header alone, with three dots
abbrev pub section_printed : PathMarks → (Names → Bool) → Section → List ℕ
section_printed marks omitted section =
    if section.hidden then header_text_of section.dir ++ codes " ...\n" else section_text_of section.dir (printed_lines marks omitted section.dir section.lines)

-- the text of a buffer, with an empty line between two sections
abbrev pub printed : PathMarks → (Names → Bool) → List Section → List ℕ
printed marks omitted sections = codes "dired 1" ++ flat_map (λ section. 10 ∷ section_printed marks omitted section) sections

-- what a sink has taken behind a text that was to be printed
abbrev pub PrintsAs : Result (Unit {0}) PrintEnd → List ℕ → List ℕ → List ℕ → Type 0
PrintsAs (Ok done) text old new = new ≡ old ++ text
PrintsAs (Err Failed) text old new = TakesPartOf text old new
PrintsAs (Err Memory) text old new = new ≡ old

-- and its count of faults
abbrev pub faults_behind : Result (Unit {0}) PrintEnd → ℕ → ℕ
faults_behind (Ok done) count = count
faults_behind (Err Failed) count = raised count
faults_behind (Err Memory) count = count
