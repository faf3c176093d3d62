-- The form of a buffer: its lines, one by one, each with what is due there.
use Rattle.std.specs.Prelude.{ℕ, ◌+◌, ◌-◌, nat_lt, List, [], ◌∷◌, length, take, drop, Option, Some, None, Result, Ok, Err, if◌then◌else◌, codes}
use Rattle.std.specs.Str.{bytes_eq}
use Rattle.dired_text.specs.Paths.{Names}
use Rattle.tree_core.specs.declared.node.Kind.{Kind}
use Rattle.tree_core.specs.declared.node.Kind.TheVariants.{File, Dir, Link}
use Rattle.listing_text.specs.declared.faults.Field.TheVariants as field
use Rattle.listing_text.specs.declared.faults.LineFault.{LineFault}
use Rattle.listing_text.specs.declared.faults.LineFault.TheVariants as line_fault
use Rattle.listing_text.specs.Fields.{target_of, arrow_place}
use Rattle.listing_text.specs.Reading.{front_of, behind_space, ◌>>=◌}
use Rattle.wdired_buffer.specs.declared.due.Due.{Due}
use Rattle.wdired_buffer.specs.declared.due.Due.TheVariants as due
use Rattle.wdired_buffer.specs.declared.faults.BufferCause.{BufferCause}
use Rattle.wdired_buffer.specs.declared.faults.BufferCause.TheVariants as cause
use Rattle.wdired_buffer.specs.declared.faults.BufferFault.{BufferFault}
use Rattle.wdired_buffer.specs.declared.faults.BufferFault.TheVariants as fault
use Rattle.wdired_buffer.specs.declared.line.BufferLine.{BufferLine}
use Rattle.wdired_buffer.specs.declared.line.BufferLine.TheVariants as line
use Rattle.wdired_buffer.specs.Lines.{lines, in_front}
use Rattle.wdired_buffer.specs.Headers.{named, dir_named, header_in, is_total}

-- a value, or the fault of a line
abbrev pub or_bad : {A : Type 0} → ℕ → BufferCause → Option A → Result A BufferFault
or_bad number cause (Some a) = Ok a
or_bad number cause None = Err (fault.Bad number cause)

-- the fault of a file's line, and its value or its fault
abbrev pub fault_at : ℕ → LineFault → BufferFault
fault_at number (line_fault.Bad field place) = fault.Bad number (cause.Line field)
fault_at number line_fault.Memory = fault.Memory

abbrev pub at_line : {A : Type 0} → ℕ → Result A LineFault → Result A BufferFault
at_line number (Ok a) = Ok a
at_line number (Err e) = Err (fault_at number e)

-- the path of a link, whose name ends before this place, and its target behind ` -> `
unfoldable pub link_shown : ℕ → Names → List ℕ → Option ℕ → Result (Names × List ℕ) BufferFault
link_shown number dir rest None = Err (fault.Bad number (cause.Line field.Target))
link_shown number dir rest (Some place) = do
  path ← or_bad number (cause.Line field.Name) (named dir (take place rest))
  target ← or_bad number (cause.Line field.Target) (target_of (drop (place + 4) rest))
  Ok (path, target)

-- the path that is shown in a directory's section, and the target of a link
unfoldable pub shown : ℕ → Names → Kind → List ℕ → Result (Names × List ℕ) BufferFault
shown number dir Link rest = link_shown number dir rest (arrow_place rest)
shown number dir File rest = or_bad number (cause.Line field.Name) (named dir rest) >>= λ path. Ok (path, [])
shown number dir Dir rest = or_bad number (cause.Line field.Name) (named dir rest) >>= λ path. Ok (path, [])

-- a file's line in a directory's section
unfoldable pub entry_of : ℕ → Names → List ℕ → Result BufferLine BufferFault
entry_of number dir text = do
  front ← at_line number (front_of text)
  rest ← or_bad number (cause.Line field.Name) (behind_space front.rest)
  names ← shown number dir front.kind rest
  Ok (line.Entry text (length text - length rest) names.0 (record { kind = front.kind; mode = front.mode; target = names.1 }))

-- a header. A hidden section has no further lines
unfoldable pub header_of : ℕ → List ℕ → Result (BufferLine × Due) BufferFault
header_of number text = do
  header ← or_bad number cause.Header (header_in text)
  dir ← or_bad number cause.Header (dir_named header.1)
  Ok (line.Header text dir, if header.0 then due.Gap else due.Total dir)

-- a line where this is due, and what is due behind it. An empty line ends a section
unfoldable pub line_of : ℕ → Due → List ℕ → Result (BufferLine × Due) BufferFault
line_of number due.First text =
    if bytes_eq text (codes "dired 1") then Ok (line.Fixed text, due.Header) else Err (fault.Bad number cause.FirstLine)
line_of number due.Header text = header_of number text
line_of number (due.Total dir) text =
    if is_total text then Ok (line.Fixed text, due.Rows dir) else Err (fault.Bad number cause.Total)
line_of number (due.Rows dir) [] = Ok (line.Fixed [], due.Header)
line_of number (due.Rows dir) (b ∷ bs) = entry_of number dir (b ∷ bs) >>= λ entry. Ok (entry, due.Rows dir)
line_of number due.Gap [] = Ok (line.Fixed [], due.Header)
line_of number due.Gap (b ∷ bs) = Err (fault.Bad number cause.Header)

-- the end, where this is due: between a section's lines and behind a hidden header the buffer may end
unfoldable pub end_of : ℕ → Due → Result (List BufferLine) BufferFault
end_of number due.First = Err (fault.Bad number cause.FirstLine)
end_of number due.Header = Err (fault.Bad number cause.Header)
end_of number (due.Total dir) = Err (fault.Bad number cause.Total)
end_of number (due.Rows dir) = Ok []
end_of number due.Gap = Ok []

-- lines that begin with this number, where this is due
abbrev pub lines_from : ℕ → Due → List (List ℕ) → Result (List BufferLine) BufferFault
lines_from number due [] = end_of number due
lines_from number due (text ∷ texts) = do
  first ← line_of number due text
  in_front (first.0 ∷ []) (lines_from (number + 1) first.1 texts)

-- the most lines that a buffer may have
abbrev pub max_lines : ℕ
max_lines = 400_000

abbrev pub buffer_of : List ℕ → Result (List BufferLine) BufferFault
buffer_of bytes =
    if nat_lt max_lines (length (lines bytes)) then Err (fault.TooManyLines (length (lines bytes)))
    else lines_from 1 due.First (lines bytes)
