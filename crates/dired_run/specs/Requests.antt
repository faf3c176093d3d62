-- What two buffers ask for: edits, and emptied names.
use Rattle.std.specs.Prelude.{ℕ, nat_lt, List, length, if◌then◌else◌, Result, Ok, Err}
use Rattle.tree_core.specs.declared.changes.Confirmed.{Confirmed}
use Rattle.wdired_buffer.specs.declared.faults.BufferFault.{BufferFault}
use Rattle.wdired_buffer.specs.declared.faults.BufferFault.TheVariants as buffer
use Rattle.wdired_buffer.specs.declared.faults.EditsFault.{EditsFault}
use Rattle.wdired_buffer.specs.declared.faults.EditsFault.TheVariants as edits
use Rattle.wdired_buffer.specs.declared.line.BufferLine.{BufferLine}
use Rattle.wdired_buffer.specs.Buffer.{buffer_of}
use Rattle.wdired_buffer.specs.Edits.{Asks, edits_of}
use Rattle.edit_words.specs.WellFormed.{max_changes}
use Rattle.dired_run.specs.declared.requests.Request.{Request}
use Rattle.run_status.specs.declared.status.Counted.TheVariants.{BufferLines, Edits}
use Rattle.run_status.specs.declared.status.Status.{Status}
use Rattle.run_status.specs.declared.status.Status.TheVariants.{Memory, BadBuffer, Faulty, TooLarge}
use Rattle.run_status.specs.Faults.{cause_of_line}
use Rattle.dired_run.specs.Inputs.{Files, input_of}

-- BEFORE is the input of this name
abbrev pub buffer_status : List ℕ → BufferFault → Status
buffer_status name (buffer.Bad line cause) = BadBuffer name line cause
buffer_status name (buffer.TooManyLines count) = TooLarge BufferLines count
buffer_status name buffer.Memory = Memory

abbrev pub edits_status : EditsFault → Status
edits_status (edits.Faulty line cause) = Faulty line (cause_of_line cause)
edits_status edits.Memory = Memory

abbrev pub Asked : Type 0
Asked = Result Request Status

-- all edits, unless there are more than 262,144
abbrev pub of_asks : Confirmed → Asks → Asked
of_asks confirmed asks =
    if nat_lt max_changes (length asks.edits) then Err (TooLarge Edits (length asks.edits))
    else Ok (record { edits = asks.edits; confirmed = confirmed; flagged = asks.emptied })

abbrev pub of_edits : Confirmed → Result Asks EditsFault → Asked
of_edits confirmed (Err e) = Err (edits_status e)
of_edits confirmed (Ok asks) = of_asks confirmed asks

abbrev pub of_buffer : Confirmed → List ℕ → Result (List BufferLine) BufferFault → List ℕ → Asked
of_buffer confirmed name (Err e) after = Err (buffer_status name e)
of_buffer confirmed name (Ok lines) after = of_edits confirmed (edits_of lines after)

-- what the bytes of the two buffers ask for
abbrev pub asked_by : Confirmed → List ℕ → List ℕ → List ℕ → Asked
asked_by confirmed name before after = of_buffer confirmed name (buffer_of before) after

abbrev pub of_inputs : Confirmed → List ℕ → Result (List ℕ) Status → Result (List ℕ) Status → Asked
of_inputs confirmed name (Err status) after = Err status
of_inputs confirmed name (Ok before) (Err status) = Err status
of_inputs confirmed name (Ok before) (Ok after) = asked_by confirmed name before after

-- what the inputs of these names ask for, or the first refusal: of BEFORE, of AFTER, of BEFORE's lines, of AFTER's lines,
-- of the number of edits
abbrev pub request_of : Files → List ℕ → List ℕ → Confirmed → Asked
request_of files before after confirmed = of_inputs confirmed before (input_of files before) (input_of files after)
