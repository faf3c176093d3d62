-- What a command does, and one step of a script.
use Rattle.std.specs.Prelude.{◌≡◌, ℕ, ◌+◌, List, [], ◌∷◌, ◌++◌, length, codes, decimal, Option, Some, None, Result, Ok, Err}
use Rattle.dired_text.specs.Paths.{Names}
use Rattle.find_words.specs.Expressions.{Expression}
use Rattle.find_words.specs.declared.fault.FindFault.{FindFault}
use Rattle.listed_lines.specs.Listed.{listed}
use Rattle.mark_table.specs.PathMarks.{is_among}
use Rattle.run_status.specs.declared.status.Status.{Status}
use Rattle.run_status.specs.declared.status.Status.TheVariants.{BadScript}
use Rattle.run_status.specs.declared.status.Status.TheVariants as status
use Rattle.script_words.specs.Commands.{SaysAt, command_at}
use Rattle.script_words.specs.Lines.{line_at}
use Rattle.script_words.specs.Words.{word_of}
use Rattle.script_words.specs.declared.command.Asked.{Asked}
use Rattle.script_words.specs.declared.command.Command.{Command}
use Rattle.script_words.specs.declared.command.Command.TheVariants.{At, Put, Change, MarkWhere, TakeOut, Turn, Kill, Count, Print, Omit, Undo}
use Rattle.script_words.specs.declared.fault.CommandFault.{CommandFault}
use Rattle.script_words.specs.declared.fault.CommandFault.TheVariants.{Bad, Memory}
use Rattle.script_words.specs.declared.fault.ScriptCause.TheVariants as cause
use Rattle.section_buffer.specs.Printed.{printed}
use Rattle.shown_lines.specs.Shown.{omits}
use Rattle.dired_session.specs.Desks.{Desk, Seen, omitting_by, starred_on}
use Rattle.dired_session.specs.Commands.{bad, go_to, kill, mark_where, omit, put, remark, take_out, turn, undo}

-- what a command makes of a session, and what it prints
pub record Did : Type 0 where
  pub desk : Desk
  pub printed : List ℕ

abbrev pub silent : Desk → Did
silent d = record { desk = d; printed = [] }

-- a command that prints nothing
abbrev pub silently : Result Desk Status → Result Did Status
silently (Ok d) = Ok (silent d)
silently (Err refused) = Err refused

abbrev pub prints : List ℕ → Desk → Result Did Status
prints text d = Ok (record { desk = d; printed = text })

abbrev pub count_text : ℕ → List ℕ
count_text n = decimal n ++ codes " marked\n"

-- the text of the buffer, with the marks and without the omitted lines
abbrev pub buffer_text : Desk → List ℕ
buffer_text d = printed d.views.view.marks (omits (omitting_by d) d.views.view.marks) d.views.view.sections

-- what a command does that looks at no tree and prints nothing, at its line
abbrev pub change : ℕ → Command → Desk → Result Desk Status
change at (At p) d = go_to at p d
change at (Put mark) d = put at mark d
change at (Change asked) d = Ok (remark asked d)
change at (MarkWhere mark test) d = mark_where at mark test d
change at (TakeOut dir) d = take_out at dir d
change at (Turn dir) d = turn at dir d
change at Kill d = Ok (kill d)
change at Omit d = Ok (omit d)
change at Undo d = undo at d
change at other d = bad at cause.UnknownCommand

-- What the command at this line does. A refusal changes nothing and prints nothing.
abbrev pub does : ℕ → Command → Seen → Desk → Result Did Status
does at Count o d = prints (count_text (length (starred_on d))) d
does at Print o d = prints (buffer_text d) d
does at other o d = silently (change at other d)

-- a step: what its command did, and the number of the line behind its last argument
abbrev pub Step : Type 0
Step = Did × ℕ

abbrev pub and_goes_on : ℕ → Result Did Status → Result Step Status
and_goes_on next (Ok did) = Ok (did, next)
and_goes_on next (Err refused) = Err refused

abbrev pub does_read : ℕ → Seen → Desk → Result (Asked × ℕ) CommandFault → Result Step Status
does_read at o d (Err (Bad line cause)) = bad line cause
does_read at o d (Err Memory) = Err status.Memory
does_read at o d (Ok read) = and_goes_on read.1 (does at read.0.command o d)

-- The step of a line, or the status that ends the script. An empty line does nothing. Where the command is `find`, its argument says
-- this.
abbrev pub step_of : Result Expression FindFault → List (List ℕ) → ℕ → Seen → Desk → List ℕ → Result Step Status
step_of said lines at o d [] = Ok (silent d, at + 1)
step_of said lines at o d (b ∷ text) = does_read at o d (command_at said lines at)

abbrev pub step : Result Expression FindFault → List (List ℕ) → ℕ → Seen → Desk → Result Step Status
step said lines at o d = step_of said lines at o d (line_at lines at)
