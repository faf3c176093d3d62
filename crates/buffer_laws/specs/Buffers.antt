-- The form of a buffer, as a relation between a text and the sections that it shows.
use Rattle.std.specs.Prelude.{◌≡◌, ◌≢◌, ◌⊎◌, ℕ, ◌-◌, ◌≤◌, List, [], ◌∷◌, ◌++◌, length, map, flat_map, codes, All, IsTrue, Some, Ok, Err}
use Rattle.dired_text.specs.Paths.{Names}
use Rattle.dired_text.specs.Resolve.{resolved}
use Rattle.dired_text.specs.declared.resolving.NameError.TheVariants.{Root}
use Rattle.listing_text.specs.declared.line.Line.{Line}
use Rattle.listing_text.specs.Fields.{name_of}
use Rattle.listing_text.specs.Grammar.{IsLineText}
use Rattle.listing_text.specs.Numbers.{is_digit}
use Rattle.wdired_buffer.specs.declared.line.BufferLine.{BufferLine}
use Rattle.wdired_buffer.specs.declared.line.BufferLine.TheVariants.{Fixed, Header, Entry}
use Rattle.wdired_buffer.specs.Buffer.{max_lines}

-- ---- what a buffer shows

-- a file's line: its text, the mark and the line that it shows, the place where the text of its name begins, and the
-- path that its name names
pub record Row : Type 0 where
  pub text : List ℕ
  pub mark : ℕ
  pub line : Line
  pub name_at : ℕ
  pub path : Names

-- what stands below a header: nothing where the section is hidden, else the text of a total, and the files' lines
pub data Body : Type 0 where
  Hidden : Body
  Shown : List ℕ → List Row → Body

-- the text of the header, the directory that it names, and what stands below it
pub record Section : Type 0 where
  pub header : List ℕ
  pub dir : Names
  pub body : Body

-- ---- the form of each line

-- the shown path of a header names this directory from the root; what resolves to the root is the root
abbrev pub NamesDir : List ℕ → Names → Type 0
NamesDir shown dir =
    (path : List ℕ) × (name_of shown ≡ Some path)
    × ((resolved [] path ≡ Ok dir) ⊎ ((resolved [] path ≡ Err Root) × (dir ≡ [])))

-- how a header ends
abbrev pub header_end : Body → List ℕ
header_end Hidden = codes ": ..."
header_end (Shown total rows) = codes ":"

-- two spaces, the path of the directory, and the end
abbrev pub IsHeader : Section → Type 0
IsHeader s = (shown : List ℕ) × (s.header ≡ codes "  " ++ shown ++ header_end s.body) × NamesDir shown s.dir

-- a decimal of 1 to 18 digits
abbrev pub IsTotal : List ℕ → Type 0
IsTotal text =
    (digits : List ℕ) × (text ≡ codes "  total " ++ digits)
    × (1 ≤ length digits) × (length digits ≤ 18) × All (λ b. IsTrue (is_digit b)) digits

-- a file's line whose name names its path from the section's directory
pub record IsRow (dir : Names) (row : Row) : Type 0 where
  pub shown : IsLineText row.mark row.line row.text
  pub place : row.name_at ≡ length row.text - length shown.names
  pub path : resolved dir row.line.name ≡ Ok row.path

abbrev pub IsBody : Names → Body → Type 0
IsBody dir Hidden = Unit {0}
IsBody dir (Shown total rows) = IsTotal total × All (IsRow dir) rows

abbrev pub IsSection : Section → Type 0
IsSection s = IsHeader s × IsBody s.dir s.body

-- ---- the lines, one below the other

abbrev pub row_line : Row → BufferLine
row_line row = Entry row.text row.name_at row.path (record { kind = row.line.kind; mode = row.line.mode; target = row.line.target })

abbrev pub body_lines : Body → List BufferLine
body_lines Hidden = []
body_lines (Shown total rows) = Fixed total ∷ map row_line rows

abbrev pub section_lines : Section → List BufferLine
section_lines s = Header s.header s.dir ∷ body_lines s.body

-- sections, each below an empty line
abbrev pub later_lines : List Section → List BufferLine
later_lines sections = flat_map (λ (s : Section). Fixed [] ∷ section_lines s) sections

-- the lines of sections, an empty one between two
abbrev pub sections_lines : List Section → List BufferLine
sections_lines [] = []
sections_lines (s ∷ later) = section_lines s ++ later_lines later

-- the first line, and the lines of the sections
abbrev pub buffer_lines : List Section → List BufferLine
buffer_lines sections = Fixed (codes "dired 1") ∷ sections_lines sections

-- ---- the text

abbrev pub text_of : BufferLine → List ℕ
text_of (Fixed text) = text
text_of (Header text dir) = text
text_of (Entry text name_at source was) = text

-- no byte is a newline
abbrev pub OnOneLine : List ℕ → Type 0
OnOneLine text = All (λ b. b ≢ 10) text

-- texts, a newline behind each
abbrev pub ended : List (List ℕ) → List ℕ
ended texts = flat_map (λ (text : List ℕ). text ++ 10 ∷ []) texts

-- the texts of the lines of a buffer
abbrev pub buffer_texts : List Section → List (List ℕ)
buffer_texts sections = map text_of (buffer_lines sections)

-- The text is a buffer of these sections, of which there is at least one: their lines, of which none has a newline within, with a
-- newline behind each, which may be missing behind the last. They are no more than a buffer may have.
pub record IsBuffer (text : List ℕ) (sections : List Section) : Type 0 where
  pub some : sections ≢ []
  pub each : All IsSection sections
  pub whole : All OnOneLine (buffer_texts sections)
  pub few : length (buffer_texts sections) ≤ max_lines
  pub is : (text ≡ ended (buffer_texts sections)) ⊎ (text ++ 10 ∷ [] ≡ ended (buffer_texts sections))
