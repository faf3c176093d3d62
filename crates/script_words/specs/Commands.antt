-- The command that stands at a line of a script.
use Rattle.std.specs.Prelude.{◌≡◌, ◌⊎◌, ◌≤◌, ℕ, ◌+◌, nat_lt, List, length, Option, Some, None, Result, Ok, Err, if◌then◌else◌}
use Rattle.dired_text.specs.Answers.{IsOrMemory}
use Rattle.find_words.specs.declared.fault.FindFault.{FindFault}
use Rattle.find_words.specs.Expressions.{Expression}
use Rattle.listing_text.specs.Reading.{◌>>=◌}
use Rattle.script_words.specs.Lines.{line_at}
use Rattle.script_words.specs.Predicates.{Says}
use Rattle.script_words.specs.Rows.{Row, argued_row, command_of, find_row, just, row_of}
use Rattle.script_words.specs.Words.{word_of}
use Rattle.script_words.specs.declared.command.Asked.{Asked}
use Rattle.script_words.specs.declared.fault.CommandFault.{CommandFault}
use Rattle.script_words.specs.declared.fault.CommandFault.TheVariants.{Bad, Memory}
use Rattle.script_words.specs.declared.fault.ScriptCause.TheVariants.{UnknownCommand, MissingArgument}
use Rattle.script_words.specs.declared.word.Word.{Word}
use Rattle.script_words.specs.declared.word.Word.TheVariants.{Plain, Argument, Find}

-- what the command at a line asks for, by its row, and the number of the line behind its last argument
abbrev pub by_row : List (List ℕ) → ℕ → Row → Result (Asked × ℕ) CommandFault
by_row lines at row =
    if nat_lt (length lines) (at + row.arguments) then Err (Bad (length lines + 1) MissingArgument)
    else row.read lines at >>= λ asked. Ok (asked, at + row.arguments + 1)

abbrev pub by_word : Result Expression FindFault → List (List ℕ) → ℕ → Option Word → Result (Asked × ℕ) CommandFault
by_word said lines at None = Err (Bad at UnknownCommand)
by_word said lines at (Some word) = by_row lines at (row_of said word)

-- the command at a line; where that is `find`, its argument says this as a predicate
abbrev pub command_at : Result Expression FindFault → List (List ℕ) → ℕ → Result (Asked × ℕ) CommandFault
command_at said lines at = by_word said lines at (word_of (line_at lines at))

-- where the word is `find` and has an argument, that says this as a predicate
abbrev pub SaysBehind : List (List ℕ) → ℕ → Word → Result Expression FindFault → Type 0
SaysBehind lines at (Plain word) said = Unit {0}
SaysBehind lines at (Argument word) said = Unit {0}
SaysBehind lines at Find said = at + 1 ≤ length lines → Says (line_at lines (at + 1)) said

-- want of memory, or exactly what `find` asks for with the predicate on the next line
abbrev pub IsFindRead : List (List ℕ) → ℕ → Result Asked CommandFault → Type 0
IsFindRead lines at result =
    (result ≡ Err Memory)
    ⊎ ((said : Result Expression FindFault) × Says (line_at lines (at + 1)) said × (result ≡ (find_row said).read lines at))

-- want of memory, or exactly what a word asks for with its arguments
abbrev pub IsRowRead : List (List ℕ) → ℕ → Word → Result Asked CommandFault → Type 0
IsRowRead lines at (Plain word) result = result ≡ Ok (just (command_of word))
IsRowRead lines at (Argument word) result = IsOrMemory Memory ((argued_row word).read lines at) result
IsRowRead lines at Find result = IsFindRead lines at result

abbrev pub SaysAt : List (List ℕ) → ℕ → Option Word → Result Expression FindFault → Type 0
SaysAt lines at None said = Unit {0}
SaysAt lines at (Some word) said = SaysBehind lines at word said

-- want of memory, or exactly the command of a word at a line
abbrev pub IsWordRead : List (List ℕ) → ℕ → Word → Result (Asked × ℕ) CommandFault → Type 0
IsWordRead lines at word result =
    (result ≡ Err Memory)
    ⊎ ((said : Result Expression FindFault) × SaysBehind lines at word said × (result ≡ by_row lines at (row_of said word)))

-- want of memory, or exactly the command at a line
abbrev pub IsCommandAt : List (List ℕ) → ℕ → Result (Asked × ℕ) CommandFault → Type 0
IsCommandAt lines at result =
    (result ≡ Err Memory)
    ⊎ ((said : Result Expression FindFault) × SaysAt lines at (word_of (line_at lines at)) said × (result ≡ command_at said lines at))
