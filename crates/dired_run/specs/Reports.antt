-- What becomes of a status that was decided, and of its text.
use Rattle.std.specs.Prelude.{◌≡◌, ◌⊎◌, ℕ, false, List, ◌++◌, codes, Result, Ok, Err}
use Rattle.dired_text.specs.Counts.{raised}
use Rattle.dired_text.specs.Outside.{TakesPartOf}
use Rattle.dired_run.specs.declared.output.Output.{Output}
use Rattle.dired_run.specs.declared.output.Output.TheVariants.{Lines, Nothing, Edited, Old, Cleared}
use Rattle.run_status.specs.declared.status.Status.{Status}
use Rattle.run_status.specs.declared.status.Status.TheVariants.{Done, Memory, WriteFault}
use Rattle.run_status.specs.Statuses.{number_of, text_of, has_fixed_text}

-- The text went out whole and the status was answered; or a write failed, some first bytes went out, and the answer is a
-- write fault that holds the number of the status. `Tells` says whether the output tells what it took.
abbrev pub Said : Type 0 → Status → List ℕ → List ℕ → List ℕ → ℕ → ℕ → Status → Type 0
Said Tells decided text taken_before taken count_before count result =
    ((result ≡ decided) × (count ≡ count_before) × (Tells → taken ≡ taken_before ++ text))
    ⊎ ((result ≡ WriteFault (number_of decided)) × (count ≡ raised count_before) × (Tells → TakesPartOf text taken_before taken))

-- the bytes of an output
abbrev pub bytes_of_output : Output → List ℕ
bytes_of_output (Lines bytes) = bytes
bytes_of_output Nothing = codes "nothing to recover\n"
bytes_of_output Edited = codes "recovered: edited\n"
bytes_of_output Old = codes "recovered: old\n"
bytes_of_output Cleared = codes "recovered: cleared\n"

-- the status of a command that ended with its output or with a refusal, and the text that is to be written
abbrev pub decided_of : Result Output Status → Status
decided_of (Ok output) = Done
decided_of (Err status) = status

abbrev pub output_of : Result Output Status → List ℕ
output_of (Ok output) = bytes_of_output output
output_of (Err status) = text_of status

-- The end of a command is reported; a text that is made in memory may give way to that of `Memory`.
abbrev pub Reported : Type 0 → Result Output Status → List ℕ → List ℕ → ℕ → ℕ → Status → Type 0
Reported Tells ended taken_before taken count_before count result =
    Said Tells (decided_of ended) (output_of ended) taken_before taken count_before count result
    ⊎ ((has_fixed_text (decided_of ended) ≡ false) × Said Tells Memory (text_of Memory) taken_before taken count_before count result)
