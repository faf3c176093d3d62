-- How a step ends: as its command is defined, or by what failed.
use Rattle.std.specs.Prelude.{◌≡◌, ◌⊎◌, ℕ, List, [], ◌++◌, Option, Some, None, Result, Ok, Err}
use Rattle.dired_text.specs.Counts.{raised}
use Rattle.dired_text.specs.Outside.{TakesPartOf}
use Rattle.find_words.specs.Expressions.{Expression}
use Rattle.find_words.specs.declared.fault.FindFault.{FindFault}
use Rattle.run_status.specs.declared.status.Status.{Status}
use Rattle.run_status.specs.declared.status.Status.TheVariants.{Done, Memory, BadScript, TreeFault, WriteFault}
use Rattle.script_words.specs.Commands.{SaysAt}
use Rattle.script_words.specs.declared.fault.CommandFault.{CommandFault}
use Rattle.script_words.specs.declared.fault.CommandFault.TheVariants.{Bad}
use Rattle.script_words.specs.declared.fault.CommandFault.TheVariants as command
use Rattle.script_words.specs.declared.fault.ScriptCause.TheVariants as cause
use Rattle.section_buffer.specs.declared.ends.BufferEnd.{BufferEnd}
use Rattle.section_buffer.specs.declared.ends.BufferEnd.TheVariants.{NoSuchDir, NotDirectory, AlreadyThere, NotThere}
use Rattle.section_buffer.specs.declared.ends.BufferEnd.TheVariants as buffer
use Rattle.script_words.specs.Lines.{line_at}
use Rattle.script_words.specs.Words.{word_of}
use Rattle.tree_core.specs.Faults.{with_fault}
use Rattle.tree_core.specs.declared.faults.Faults.{Faults}
use Rattle.tree_core.specs.declared.node.CallName.{CallName}
use Rattle.dired_session.specs.Desks.{Desk, Seen}
use Rattle.dired_session.specs.Steps.{Did, Step, step}

-- A command that prints nothing and needs no tree ends as it is defined, or memory ran out.
abbrev pub EndsAs : Result Desk Status → Desk → Result (Unit {0}) Status → Type 0
EndsAs wanted now (Ok done) = wanted ≡ Ok now
EndsAs wanted now (Err refused) = (refused ≡ Memory) ⊎ (wanted ≡ Err refused)

-- the status of a line at which no command is read
abbrev pub fault_status : CommandFault → Status
fault_status (Bad line cause) = BadScript line cause
fault_status command.Memory = Memory

-- the status of a call that a buffer refuses, for an argument on this line
abbrev pub status_of : ℕ → BufferEnd → Status
status_of line NoSuchDir = BadScript line cause.NoSuchDir
status_of line NotDirectory = BadScript line cause.NotDirectory
status_of line AlreadyThere = BadScript line cause.AlreadyThere
status_of line NotThere = BadScript line cause.NotThere
status_of line (buffer.TreeFault first) = TreeFault first
status_of line buffer.Memory = Memory

-- how a command ends that prints
abbrev pub IsPrintEnd : Status → Type 0
IsPrintEnd Memory = Unit {0}
IsPrintEnd (WriteFault held) = held ≡ 0
IsPrintEnd other = ⊥

-- what a command printed of a text that it was to print: nothing, where memory ran out
abbrev pub of_printed : Result (Unit {0}) Status → List ℕ → List ℕ
of_printed (Err Memory) text = []
of_printed result text = text

-- the command that was to be done prints this
abbrev pub Printing : List ℕ → Result Did Status → Type 0
Printing text (Ok did) = did.printed ≡ text
Printing text (Err refused) = ⊥

-- What a command answers that leaves the session so and prints this: exactly what it is defined to do; want of memory; a failed look; or a failed
-- output, and then this was to be printed.
abbrev pub DoesBy : Result Did Status → Desk → List ℕ → Result (Unit {0}) Status → Type 0
DoesBy wanted now text (Ok done) = wanted ≡ Ok (record { desk = now; printed = text })
DoesBy wanted now text (Err Memory) = text ≡ []
DoesBy wanted now text (Err (TreeFault first)) = text ≡ []
DoesBy wanted now text (Err (WriteFault held)) = Printing text wanted
DoesBy wanted now text (Err refused) = (wanted ≡ Err refused) × (text ≡ [])

-- the step that was to be done prints this
abbrev pub StepPrinting : List ℕ → Result Step Status → Type 0
StepPrinting text (Ok step) = step.0.printed ≡ text
StepPrinting text (Err refused) = ⊥

-- the same of a step
abbrev pub EndsBy : Result Step Status → Desk → List ℕ → Result ℕ Status → Type 0
EndsBy wanted now text (Ok next) = wanted ≡ Ok (record { desk = now; printed = text }, next)
EndsBy wanted now text (Err Memory) = text ≡ []
EndsBy wanted now text (Err (TreeFault first)) = text ≡ []
EndsBy wanted now text (Err (WriteFault held)) = StepPrinting text wanted
EndsBy wanted now text (Err refused) = (wanted ≡ Err refused) × (text ≡ [])

-- Memory ran out as the command was read; or the command at the line ended so.
abbrev pub StepsBy : List (List ℕ) → ℕ → Seen → Desk → Desk → List ℕ → Result ℕ Status → Type 0
StepsBy lines at o before now text result =
    ((result ≡ Err Memory) × (text ≡ []))
    ⊎ ((said : Result Expression FindFault) × SaysAt lines at (word_of (line_at lines at)) said
    × EndsBy (step said lines at o before) now text result)

-- an output took what was printed, or a part of it where it failed
abbrev pub IsWritten : Status → List ℕ → List ℕ → List ℕ → Type 0
IsWritten (WriteFault held) text before now = TakesPartOf text before now
IsWritten other text before now = now ≡ before ++ text

-- ---- which calls failed

-- the failed look that an end names
abbrev pub failed_look : Status → Option CallName
failed_look (TreeFault first) = Some first
failed_look other = None

-- the counts of failed calls of the tree and of the output
pub record Tally : Type 0 where
  pub tree : Faults
  pub output : ℕ

abbrev pub tally : Faults → ℕ → Tally
tally tree output = record { tree = tree; output = output }

abbrev pub output_behind : Status → ℕ → ℕ
output_behind (WriteFault held) count = raised count
output_behind other count = count

-- behind a step or a script that ended so
abbrev pub counts_behind : Status → Tally → Tally
counts_behind (TreeFault first) counts = record { tree = with_fault first counts.tree; output = counts.output }
counts_behind (WriteFault held) counts = record { tree = counts.tree; output = raised counts.output }
counts_behind other counts = counts

-- how a step ends that doesn't go on
abbrev pub IsStepEnd : Status → Type 0
IsStepEnd Memory = Unit {0}
IsStepEnd (TreeFault first) = Unit {0}
IsStepEnd (WriteFault held) = held ≡ 0
IsStepEnd (BadScript line cause) = Unit {0}
IsStepEnd other = ⊥

-- and one that looks at no tree and prints nothing
abbrev pub IsDeskEnd : Status → Type 0
IsDeskEnd Memory = Unit {0}
IsDeskEnd (BadScript line cause) = Unit {0}
IsDeskEnd other = ⊥

-- a command or step that was done ended as `Done`
abbrev pub ended_by : {A : Type 0} → Result A Status → Status
ended_by (Ok next) = Done
ended_by (Err ended) = ended

-- how a script ends
abbrev pub IsScriptEnd : Status → Type 0
IsScriptEnd Done = Unit {0}
IsScriptEnd other = IsStepEnd other
