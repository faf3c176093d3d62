-- The lines of a buffer that print, with the numbers that they have in the printed text.
use Rattle.std.specs.Prelude.{ℕ, ◌+◌, Bool, false, List, [], ◌∷◌, ◌++◌, length, Option, Some, None, is_some, Result, Ok, Err, if◌then◌else◌}
use Rattle.std.specs.FinMap.{get}
use Rattle.std.specs.Option.{option_to_list}
use Rattle.dired_text.specs.Paths.{Names}
use Rattle.dired_text.specs.Resolve.{resolved}
use Rattle.dired_text.specs.declared.resolving.NameError.{NameError}
use Rattle.listing_text.specs.declared.line.Line.{Line}
use Rattle.mark_table.specs.PathMarks.{PathMarks}
use Rattle.omit_rules.specs.Rules.{is_omitted}
use Rattle.omit_rules.specs.declared.rules.Rules.{Rules}
use Rattle.section_buffer.specs.Printed.{printed_lines}
use Rattle.section_buffer.specs.declared.section.Section.{Section}
use Rattle.shown_lines.specs.declared.entry.Entry.{Entry}

-- the last name of a path
abbrev pub last_name : Names → List ℕ
last_name [] = []
last_name (n ∷ []) = n
last_name (n ∷ m ∷ p) = last_name (m ∷ p)

-- whether the line of a path is omitted, where there are rules for that
abbrev pub omits : Option Rules → PathMarks → Names → Bool
omits None marks p = false
omits (Some rules) marks p = is_omitted rules (last_name p) (is_some (get marks p))

-- a line that prints, where its name has a path
abbrev pub entry_of : ℕ → Result Names NameError → Line → Option Entry
entry_of number (Ok path) line = Some (record { path = path; kind = line.kind; mode = line.mode; number = number })
entry_of number (Err refused) line = None

-- lines of a directory that print with their marks, of which the first is this line of the text
abbrev pub numbered : ℕ → Names → List (ℕ × Line) → List Entry
numbered n dir [] = []
numbered n dir (printed ∷ later) = option_to_list (entry_of n (resolved dir printed.1.name) printed.1) ++ numbered (n + 1) dir later

module _ (rules : Option Rules) (marks : PathMarks) where
  -- the lines of a directory that print
  abbrev pub printing : Names → List Line → List (ℕ × Line)
  printing dir lines = printed_lines marks (omits rules marks) dir lines

  -- how many lines of the text a section takes: header, total, its lines and an empty line, and a hidden one header and
  -- empty line
  abbrev pub height : Section → ℕ
  height section = if section.hidden then 2 else 3 + length (printing section.dir section.lines)

  -- the shown lines of a section that begins at this line of the text
  abbrev pub shown_in : ℕ → Section → List Entry
  shown_in n section = if section.hidden then [] else numbered (n + 2) section.dir (printing section.dir section.lines)

  -- and of sections of which the first begins there
  abbrev pub shown_from : ℕ → List Section → List Entry
  shown_from n [] = []
  shown_from n (section ∷ later) = shown_in n section ++ shown_from (n + height section) later

  -- The shown lines of a buffer. Line 1 of its text is `dired 1`.
  abbrev pub shown : List Section → List Entry
  shown sections = shown_from 2 sections
