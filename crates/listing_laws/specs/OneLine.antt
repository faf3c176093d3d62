-- Texts on one line, and the lines of a listing.
use Rattle.std.specs.Prelude.{◌≢◌, ◌≤◌, ℕ, List, [], ◌∷◌, ◌++◌, length, map, flat_map, codes, All}
use Rattle.dired_text.specs.Paths.{Names}
use Rattle.listing_text.specs.declared.line.Line.{Line}
use Rattle.listing_text.specs.Grammar.{IsLawful}
use Rattle.listing_text.specs.Listed.{line_text_of, header_text_of, total_text_of, section_text_of, widths_of}

-- no byte is a newline
abbrev pub OnOneLine : List ℕ → Type 0
OnOneLine text = All (λ b. b ≢ 10) text

-- a mark that a line may have, in front of a lawful line
abbrev pub IsListed : ℕ × Line → Type 0
IsListed listed = (32 ≤ listed.0) × (listed.0 ≤ 126) × IsLawful listed.1

-- each line of these sections is such a one
abbrev pub AreListed : List (Names × List (ℕ × Line)) → Type 0
AreListed sections = All (λ (s : Names × List (ℕ × Line)). All IsListed s.1) sections

-- the lines of files, each without its newline
abbrev pub file_lines : List (ℕ × Line) → List (List ℕ)
file_lines ls = map (λ (listed : ℕ × Line). line_text_of listed.0 listed.1 (widths_of ls)) ls

-- the lines of a section: its header, its total, and one for each file
abbrev pub section_lines : Names × List (ℕ × Line) → List (List ℕ)
section_lines s = header_text_of s.0 ∷ total_text_of (length s.1) ∷ file_lines s.1

-- an empty line and a section's lines, for each of these sections
abbrev pub later_lines : List (Names × List (ℕ × Line)) → List (List ℕ)
later_lines sections = flat_map (λ (s : Names × List (ℕ × Line)). [] ∷ section_lines s) sections

-- the lines of sections, an empty one between two
abbrev pub sections_lines : List (Names × List (ℕ × Line)) → List (List ℕ)
sections_lines [] = []
sections_lines (s ∷ later) = section_lines s ++ later_lines later

-- the text of sections, each behind a newline
abbrev pub sections_text : List (Names × List (ℕ × Line)) → List ℕ
sections_text sections = flat_map (λ (s : Names × List (ℕ × Line)). 10 ∷ section_text_of s.0 s.1) sections

-- the first line of a listing
abbrev pub title : List ℕ
title = codes "dired 1"
