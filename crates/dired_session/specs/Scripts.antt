-- A whole script: the fold of its steps, and how it ends.
use Rattle.std.specs.Prelude.{◌≡◌, ℕ, ◌+◌, List, [], ◌∷◌, ◌++◌, length, Option, None, Result, Ok, Err}
use Rattle.find_words.specs.Expressions.{Expression}
use Rattle.find_words.specs.declared.fault.FindFault.{FindFault}
use Rattle.listed_lines.specs.Listed.{listed}
use Rattle.omit_rules.specs.Values.{Values}
use Rattle.omit_rules.specs.declared.rules.Rules.{Rules}
use Rattle.run_status.specs.declared.status.Status.{Status}
use Rattle.run_status.specs.declared.status.Status.TheVariants.{Done, Memory, BadScript, TooLarge, TreeFault}
use Rattle.script_words.specs.Commands.{SaysAt}
use Rattle.script_words.specs.Lines.{line_at, script_of}
use Rattle.script_words.specs.declared.fault.ScriptCause.TheVariants as cause
use Rattle.script_words.specs.declared.fault.ScriptFault.{ScriptFault}
use Rattle.script_words.specs.declared.fault.ScriptFault.TheVariants.{TooManyLines, NotUtf8}
use Rattle.script_words.specs.declared.fault.ScriptFault.TheVariants as fault
use Rattle.run_status.specs.declared.status.Counted.TheVariants.{ScriptLines}
use Rattle.script_words.specs.Words.{word_of}
use Rattle.section_buffer.specs.Buffers.{all_lines}
use Rattle.session_view.specs.Views.{first_view}
use Rattle.dired_session.specs.Desks.{Desk, Seen}
use Rattle.dired_session.specs.Ends.{StepsBy}
use Rattle.dired_session.specs.Steps.{Did, step}

-- the status of bytes that are no script
abbrev pub script_status : ScriptFault → Status
script_status (TooManyLines number) = TooLarge ScriptLines number
script_status (NotUtf8 line) = BadScript line cause.NotUtf8
script_status fault.Memory = Memory

abbrev pub or_status : Result (List (List ℕ)) ScriptFault → Result (List (List ℕ)) Status
or_status (Ok lines) = Ok lines
or_status (Err fault) = Err (script_status fault)

-- the lines of the script that bytes write
abbrev pub script_read : List ℕ → Result (List (List ℕ)) Status
script_read bytes = or_status (script_of bytes)

-- the session before the first command: the section of the root, as `list -Al` lists it
abbrev pub opened : Rules → Values → Seen → Desk
opened rules values o = record {
  views = first_view all_lines (listed all_lines o.tree o.fields []);
  current = None;
  rules = rules;
  kept = record { oldest = values.kept_old; newest = values.kept_new };
}

-- From a line of a script its steps, each done, lead to another line, and print this. What each `find` asks for is what its argument says.
abbrev pub Reaches : List (Result Expression FindFault) → Seen → List (List ℕ) → ℕ → Desk → ℕ → Desk → List ℕ → Type 0
Reaches [] o lines at before end now text = (end ≡ at) × (now ≡ before) × (text ≡ [])
Reaches (said ∷ later) o lines at before end now text =
    (did : Did) × (next : ℕ) × (rest : List ℕ) × SaysAt lines at (word_of (line_at lines at)) said
    × (step said lines at o before ≡ Ok (did, next)) × Reaches later o lines next did.desk end now rest
    × (text ≡ did.printed ++ rest)

-- the root couldn't be listed
abbrev pub IsUnopened : Status → Type 0
IsUnopened Memory = Unit {0}
IsUnopened (TreeFault first) = Unit {0}
IsUnopened other = ⊥

-- How a script ends over what is seen of a tree, and what it prints up to there: it is done where its steps lead behind its last line; or they
-- lead to a line whose step ends it; or the root couldn't be listed.
pub data Runs (o : Seen) (lines : List (List ℕ)) (start : Desk) (ended : Status) (text : List ℕ) : Type 0 where
  done : (said : List (Result Expression FindFault)) (now : Desk) → ended ≡ Done → Reaches said o lines 1 start (length lines + 1) now text
      → Runs o lines start ended text
  stopped : (said : List (Result Expression FindFault)) (at : ℕ) (before now : Desk) (printed last : List ℕ) → Reaches said o lines 1 start at before printed
      → StepsBy lines at o before now last (Err ended) → text ≡ printed ++ last → Runs o lines start ended text
  unopened : IsUnopened ended → text ≡ [] → Runs o lines start ended text
