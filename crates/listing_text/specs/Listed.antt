-- The text of a section of a listing: its header, its total, and a line for each file.
use Rattle.std.specs.Prelude.{ℕ, ◌-◌, ◌%◌, Bool, true, false, List, [], ◌∷◌, ◌++◌, length, replicate, max, min, codes, decimal}
use Rattle.dired_text.specs.Escape.{escaped}
use Rattle.dired_text.specs.Modes.{mode_letters}
use Rattle.dired_text.specs.Paths.{Names, joined}
use Rattle.tree_core.specs.declared.node.Kind.{Kind}
use Rattle.tree_core.specs.declared.node.Kind.TheVariants.{File, Dir, Link}
use Rattle.listing_text.specs.declared.line.Line.{Line}
use Rattle.listing_text.specs.declared.line.Widths.{Widths}
use Rattle.listing_text.specs.Dates.{minute_text}

abbrev pub kind_letter : Kind → ℕ
kind_letter File = 45
kind_letter Dir = 100
kind_letter Link = 108

abbrev pub is_link : Kind → Bool
is_link File = false
is_link Dir = false
is_link Link = true

abbrev pub spaces : ℕ → List ℕ
spaces count = replicate count 32

-- a text at the right and at the left of a column
abbrev pub at_right : ℕ → List ℕ → List ℕ
at_right width text = spaces (width - length text) ++ text

abbrev pub at_left : ℕ → List ℕ → List ℕ
at_left width text = text ++ spaces (width - length text)

-- what stands between the name of a link and its target
abbrev pub arrow : List ℕ
arrow = codes " -> "

abbrev pub target_text : Kind → List ℕ → List ℕ
target_text File target = []
target_text Dir target = []
target_text Link target = arrow ++ escaped false target

-- links, owner, group and size in their columns, each with a space in front
unfoldable pub columns_text : Line → Widths → List ℕ
columns_text line widths =
    32 ∷ at_right widths.links (decimal line.links) ++ 32 ∷ at_left widths.owner line.owner
    ++ 32 ∷ at_left widths.group line.group ++ 32 ∷ at_right widths.size (decimal line.size)

-- the name, and the target of a link
unfoldable pub names_text : Line → List ℕ
names_text line = escaped (is_link line.kind) line.name ++ target_text line.kind line.target

-- the mark, the kind and the mode. Of the mode the twelve bits are shown that it may have
unfoldable pub start_text : ℕ → Line → List ℕ
start_text mark line = mark ∷ 32 ∷ kind_letter line.kind ∷ mode_letters (line.mode % 0o10000)

-- a file's line without its newline
unfoldable pub line_text_of : ℕ → Line → Widths → List ℕ
line_text_of mark line widths =
    start_text mark line ++ columns_text line widths ++ 32 ∷ minute_text line.minute ++ 32 ∷ names_text line

-- the width of the widest, at most 255
abbrev pub width_of : (Line → List ℕ) → List (ℕ × Line) → ℕ
width_of column [] = 0
width_of column (listed ∷ later) = max (min (length (column listed.1)) 255) (width_of column later)

unfoldable pub widths_of : List (ℕ × Line) → Widths
widths_of lines = record {
  links = width_of (λ (line : Line). decimal line.links) lines;
  owner = width_of (λ (line : Line). line.owner) lines;
  group = width_of (λ (line : Line). line.group) lines;
  size = width_of (λ (line : Line). decimal line.size) lines;
}

-- a directory's path, on a line; the root is `.`
unfoldable pub dir_text : Names → List ℕ
dir_text [] = codes "."
dir_text (name ∷ path) = escaped false (joined (name ∷ path))

-- the header of a section, without its newline
unfoldable pub header_text_of : Names → List ℕ
header_text_of dir = codes "  " ++ dir_text dir ++ codes ":"

-- the total of a section with so many lines, without its newline
unfoldable pub total_text_of : ℕ → List ℕ
total_text_of count = codes "  total " ++ decimal count

-- file lines, each with its newline
unfoldable pub lines_text : Widths → List (ℕ × Line) → List ℕ
lines_text widths [] = []
lines_text widths (listed ∷ later) = line_text_of listed.0 listed.1 widths ++ 10 ∷ lines_text widths later

-- a section that is shown
unfoldable pub section_text_of : Names → List (ℕ × Line) → List ℕ
section_text_of dir lines =
    header_text_of dir ++ 10 ∷ total_text_of (length lines) ++ 10 ∷ lines_text (widths_of lines) lines
