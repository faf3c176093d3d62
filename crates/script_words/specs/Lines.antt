-- The lines of a script.
use Rattle.std.specs.Prelude.{ℕ, ◌+◌, ◌-◌, ◌==◌, nat_lt, List, [], ◌∷◌, ◌++◌, length, Result, Ok, Err, if◌then◌else◌, get_or}
use Rattle.std.specs.Str.{is_utf8}
use Rattle.dired_text.specs.Resolve.{with_first}
use Rattle.script_words.specs.declared.fault.ScriptFault.{ScriptFault}
use Rattle.script_words.specs.declared.fault.ScriptFault.TheVariants.{TooManyLines, NotUtf8}

abbrev pub newline : ℕ
newline = 10

-- the lines of a text: each newline ends one, and bytes behind the last newline are one more
abbrev pub lines : List ℕ → List (List ℕ)
lines [] = []
lines (b ∷ bs) = if b == newline then [] ∷ lines bs else with_first b (lines bs)

-- the line of a number, counted from 1
abbrev pub line_at : List (List ℕ) → ℕ → List ℕ
line_at lines number = get_or lines (number - 1) []

abbrev pub max_lines : ℕ
max_lines = 100_000

-- a line of this number is UTF-8
unfoldable pub text_of : ℕ → List ℕ → Result (List ℕ) ScriptFault
text_of number line = if is_utf8 line then Ok line else Err (NotUtf8 number)

-- these lines in front of later ones, or the refusal of those
abbrev pub in_front : List (List ℕ) → Result (List (List ℕ)) ScriptFault → Result (List (List ℕ)) ScriptFault
in_front front (Ok later) = Ok (front ++ later)
in_front front (Err fault) = Err fault

-- one line and those behind it
abbrev pub with_text : Result (List ℕ) ScriptFault → Result (List (List ℕ)) ScriptFault → Result (List (List ℕ)) ScriptFault
with_text (Err fault) later = Err fault
with_text (Ok line) later = in_front (line ∷ []) later

-- lines of which the first has this number, or the first that isn't UTF-8
abbrev pub texts_from : ℕ → List (List ℕ) → Result (List (List ℕ)) ScriptFault
texts_from number [] = Ok []
texts_from number (line ∷ later) = with_text (text_of number line) (texts_from (number + 1) later)

-- the script that bytes write
abbrev pub script_of : List ℕ → Result (List (List ℕ)) ScriptFault
script_of bytes =
    if nat_lt max_lines (length (lines bytes)) then Err (TooManyLines (length (lines bytes)))
    else texts_from 1 (lines bytes)
