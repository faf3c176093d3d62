-- What the lines of a listing are, as statements.
use Rattle.std.specs.Prelude.{◌≡◌, ◌≤◌, ℕ, Bool, List, ◌∷◌, ◌++◌, All}
use Rattle.dired_text.specs.Escape.{escaped}
use Rattle.dired_text.specs.Paths.{Names}
use Rattle.listing_text.specs.declared.line.Line.{Line}
use Rattle.listing_text.specs.declared.line.Widths.{Widths}
use Rattle.listing_text.specs.Grammar.{IsLawful}
use Rattle.listing_text.specs.Listed.{line_text_of, header_text_of, total_text_of, section_text_of}
use Rattle.wdired_buffer.specs.Lines.{lines}
use Rattle.listing_laws.specs.OneLine.{OnOneLine, IsListed, AreListed, section_lines, sections_lines, sections_text, title}

abbrev pub LinesSplit : Type 0
LinesSplit = (text rest : List ℕ) → OnOneLine text → lines (text ++ 10 ∷ rest) ≡ text ∷ lines rest

abbrev pub EscapedOneLine : Type 0
EscapedOneLine = (in_link : Bool) (text : List ℕ) → OnOneLine (escaped in_link text)

abbrev pub HeaderOneLine : Type 0
HeaderOneLine = (dir : Names) → OnOneLine (header_text_of dir)

abbrev pub TotalOneLine : Type 0
TotalOneLine = (count : ℕ) → OnOneLine (total_text_of count)

abbrev pub LineOneLine : Type 0
LineOneLine = (mark : ℕ) (line : Line) (widths : Widths) → 32 ≤ mark → mark ≤ 126 → IsLawful line → OnOneLine (line_text_of mark line widths)

abbrev pub SectionLines : Type 0
SectionLines = (dir : Names) (ls : List (ℕ × Line)) (rest : List ℕ) → All IsListed ls → lines (section_text_of dir ls ++ rest) ≡ section_lines (dir, ls) ++ lines rest

abbrev pub ListingLines : Type 0
ListingLines = (sections : List (Names × List (ℕ × Line))) → AreListed sections → lines (title ++ sections_text sections) ≡ title ∷ sections_lines sections
