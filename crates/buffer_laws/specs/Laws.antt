-- Laws of buffers, as statements.
use Rattle.std.specs.Prelude.{◌≡◌, ◌⊎◌, ℕ, List, [], ◌∷◌, ◌++◌, Ok}
use Rattle.wdired_buffer.specs.declared.line.BufferLine.{BufferLine}
use Rattle.wdired_buffer.specs.Buffer.{buffer_of}
use Rattle.wdired_buffer.specs.Lines.{lines}
use Rattle.wdired_buffer.specs.Edits.{Asks, edits_of}
use Rattle.buffer_laws.specs.Buffers.{Section, IsBuffer, buffer_lines}
use Rattle.buffer_laws.specs.Differences.{AreDifferences}

-- a buffer of sections is read as their lines
abbrev pub BuffersAreRead : Type 0
BuffersAreRead = (text : List ℕ) (sections : List Section) → IsBuffer text sections → buffer_of text ≡ Ok (buffer_lines sections)

-- what is read as lines is a buffer of sections with these lines
abbrev pub ReadAreBuffers : Type 0
ReadAreBuffers =
    (text : List ℕ) (read : List BufferLine) → buffer_of text ≡ Ok read
    → (sections : List Section) × IsBuffer text sections × (read ≡ buffer_lines sections)

-- a text is a buffer of no more than one list of sections
abbrev pub SectionsAreOne : Type 0
SectionsAreOne = (text : List ℕ) (s t : List Section) → IsBuffer text s → IsBuffer text t → s ≡ t

-- sections have one text, but for the newline behind the last line
abbrev pub TextsAreOne : Type 0
TextsAreOne =
    (text other : List ℕ) (sections : List Section) → IsBuffer text sections → IsBuffer other sections
    → (text ≡ other) ⊎ (text ++ 10 ∷ [] ≡ other) ⊎ (text ≡ other ++ 10 ∷ [])

-- what is asked for by an edited text of a buffer are its differences, and where there are such it isn't refused
abbrev pub EditsAreDifferences : Type 0
EditsAreDifferences =
    (old new : List ℕ) (before : List BufferLine) (asks : Asks)
    → buffer_of old ≡ Ok before → edits_of before new ≡ Ok asks → AreDifferences before (lines new) asks

abbrev pub DifferencesAreEdits : Type 0
DifferencesAreEdits =
    (old new : List ℕ) (before : List BufferLine) (asks : Asks)
    → buffer_of old ≡ Ok before → AreDifferences before (lines new) asks → edits_of before new ≡ Ok asks
