-- What a buffer makes of a line of a listing.
use Rattle.std.specs.Prelude.{◌≡◌, ◌⊎◌, ℕ, List, Result, Ok, Err}
use Rattle.dired_text.specs.Paths.{Names}
use Rattle.dired_text.specs.Resolve.{resolved}
use Rattle.dired_text.specs.declared.resolving.NameError.{NameError}
use Rattle.listing_text.specs.declared.faults.Field.TheVariants as field
use Rattle.listing_text.specs.declared.faults.LineFault.{LineFault}
use Rattle.listing_text.specs.declared.faults.LineFault.TheVariants as line_fault
use Rattle.listing_text.specs.declared.line.Line.{Line}
use Rattle.wdired_buffer.specs.declared.faults.BufferCause.TheVariants as cause
use Rattle.wdired_buffer.specs.declared.faults.BufferFault.{BufferFault}
use Rattle.wdired_buffer.specs.declared.faults.BufferFault.TheVariants as fault
use Rattle.wdired_buffer.specs.declared.line.BufferLine.{BufferLine}
use Rattle.wdired_buffer.specs.declared.line.BufferLine.TheVariants.{Fixed, Header, Entry}
use Rattle.wdired_buffer.specs.declared.typed.Typed.{Typed}
use Rattle.wdired_buffer.specs.Edits.{typed_of, asked_of, nothing}

-- the entry of a line whose name names this path
abbrev pub IsEntryOf : ℕ → List ℕ → Line → Result Names NameError → Result BufferLine BufferFault → Type 0
IsEntryOf number text line (Ok path) read =
    (name_at : ℕ) × (read ≡ Ok (Entry text name_at path (record { kind = line.kind; mode = line.mode; target = line.target })))
IsEntryOf number text line (Err e) read = read ≡ Err (fault.Bad number (cause.Line field.Name))

-- a line of a listing is the entry of the path that its name names from the directory, or has a bad name. What is no
-- line has its bad field, but for a bad target behind a name that names no path
abbrev pub IsReadAs : ℕ → Names → List ℕ → Result (ℕ × Line) LineFault → Result BufferLine BufferFault → Type 0
IsReadAs number dir text (Ok marked) read = IsEntryOf number text marked.1 (resolved dir marked.1.name) read
IsReadAs number dir text (Err (line_fault.Bad bad place)) read =
    (read ≡ Err (fault.Bad number (cause.Line bad))) ⊎ ((bad ≡ field.Target) × (read ≡ Err (fault.Bad number (cause.Line field.Name))))
IsReadAs number dir text (Err line_fault.Memory) read = read ≡ Err fault.Memory

-- a property of what was read
abbrev pub AllOk : {B E : Type 0} → (B → Type 0) → Result B E → Type 0
AllOk Q (Ok b) = Q b
AllOk Q (Err e) = Unit {0}

-- by its fields, the own line of an entry shows what it showed, and so it asks for nothing
abbrev pub AsksNothing : ℕ → Names → BufferLine → Type 0
AsksNothing number dir (Fixed text) = Unit {0}
AsksNothing number dir (Header text own) = Unit {0}
AsksNothing number dir (Entry text name_at source was) =
    (typed : Typed) × (typed_of number dir name_at was text ≡ Ok typed) × (asked_of number source was typed ≡ nothing)
