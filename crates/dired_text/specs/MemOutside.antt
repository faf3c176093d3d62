-- What the objects in memory contain and do.
use Rattle.std.specs.Prelude.{◌≡◌, ◌⊎◌, ℕ, ◌==◌, Bool, List, Option, Some, find, map, Result, Err, IsTrue, IfOk, OnErr, is_err}
use Rattle.std.specs.List.{list_any}
use Rattle.std.specs.Str.{bytes_eq}
use Rattle.std.specs.Option.{option_map}
use Rattle.dired_text.specs.declared.mem_patterns.MemPatterns.{MemPatterns}
use Rattle.dired_text.specs.declared.mem_shelf.MemShelf.{MemShelf}
use Rattle.dired_text.specs.declared.mem_shell.MemShell.{MemShell}
use Rattle.dired_text.specs.declared.mem_sink.MemSink.{MemSink}
use Rattle.dired_text.specs.declared.shelf.ShelfEnd.{ShelfEnd}
use Rattle.dired_text.specs.declared.shelf.ShelfEnd.TheVariants as end
use Rattle.dired_text.specs.declared.patterns.PatternsError.{PatternsError}
use Rattle.dired_text.specs.declared.patterns.PatternsError.TheVariants as error
use Rattle.dired_text.specs.declared.text.Failed.{Failed}
use Rattle.dired_text.specs.Counts.{raised, Rose}
use Rattle.dired_text.specs.Patterns.{RefusesText}

-- the bytes under a name: of two files of one name the first counts
abbrev pub file_of : List (List ℕ × List ℕ) → List ℕ → Option (List ℕ)
file_of files name = option_map (λ (file : List ℕ × List ℕ). file.1) (find (λ file. bytes_eq file.0 name) files)

-- whether a schedule of failures names this call, the first being call 0
abbrev pub is_scheduled : List ℕ → ℕ → Bool
is_scheduled schedule call = list_any (λ n. n == call) schedule

abbrev pub shelf_files : MemShelf → List ℕ → Option (List ℕ)
shelf_files shelf = file_of shelf.files.items

abbrev pub shelf_schedule : MemShelf → List ℕ
shelf_schedule shelf = shelf.fail.items

-- how many reads came so far
abbrev pub shelf_reads : MemShelf → ℕ
shelf_reads shelf = shelf.reads

abbrev pub shelf_faults : MemShelf → ℕ
shelf_faults shelf = shelf.faults

abbrev pub shelf_last_failed : MemShelf → Option (List ℕ)
shelf_last_failed shelf = shelf.last_failed

abbrev pub sink_taken : MemSink → List ℕ
sink_taken sink = sink.taken.items

abbrev pub sink_schedule : MemSink → List ℕ
sink_schedule sink = sink.fail.items

-- how many calls came so far
abbrev pub sink_calls : MemSink → ℕ
sink_calls sink = sink.calls

abbrev pub sink_faults : MemSink → ℕ
sink_faults sink = sink.faults

-- how many calls failed for want of memory
abbrev pub sink_short : MemSink → ℕ
sink_short sink = sink.short

abbrev pub patterns_schedule : MemPatterns → List ℕ
patterns_schedule patterns = patterns.fail.items

-- how many calls came so far
abbrev pub patterns_calls : MemPatterns → ℕ
patterns_calls patterns = patterns.calls

abbrev pub patterns_refusals : MemPatterns → ℕ
patterns_refusals patterns = patterns.refusals

-- the texts run so far, each with the number that every text exits with
abbrev pub shell_runs : MemShell → List (List ℕ × Option ℕ)
shell_runs shell = map (λ text. (text, Some shell.exit)) shell.texts.items

abbrev pub shell_exit : MemShell → ℕ
shell_exit shell = shell.exit

abbrev pub shell_schedule : MemShell → List ℕ
shell_schedule shell = shell.fail.items

-- how many calls came so far
abbrev pub shell_calls : MemShell → ℕ
shell_calls shell = shell.calls

abbrev pub shell_faults : MemShell → ℕ
shell_faults shell = shell.faults

-- how many calls failed for want of memory
abbrev pub shell_short : MemShell → ℕ
shell_short shell = shell.short

abbrev pub shell_texts : MemShell → List (List ℕ)
shell_texts shell = shell.texts.items

-- ---- schedules are obeyed

abbrev pub ShelfMayFail : MemShelf → MemShelf → Type 0
ShelfMayFail old new = IsTrue (is_scheduled (shelf_schedule old) (shelf_reads old))

abbrev pub SinkMayFail : MemSink → MemSink → Type 0
SinkMayFail old new = IsTrue (is_scheduled (sink_schedule old) (sink_calls old)) ⊎ Rose (sink_short old) (sink_short new)

abbrev pub ShellMayFail : MemShell → MemShell → Type 0
ShellMayFail old new = IsTrue (is_scheduled (shell_schedule old) (shell_calls old)) ⊎ Rose (shell_short old) (shell_short new)

abbrev pub PatternsMayFail : MemPatterns → MemPatterns → List ℕ → Type 0
PatternsMayFail old new text = IsTrue (is_scheduled (patterns_schedule old) (patterns_calls old)) ⊎ RefusesText text

-- One call more was made, and the schedule stays.
pub record OneCallMore (schedule : List ℕ) (calls : ℕ) (new_schedule : List ℕ) (new_calls : ℕ) : Type 0 where
  pub schedule_stays : new_schedule ≡ schedule
  pub counted : new_calls ≡ raised calls

-- A read that is scheduled fails, where there is memory to keep its name.
pub record ShelfObeys (old new : MemShelf) (result : Result (List ℕ) ShelfEnd) : Type 0 where
  pub fails : IsTrue (is_scheduled (shelf_schedule old) (shelf_reads old)) → (result ≡ Err end.Failed) ⊎ (result ≡ Err end.Memory)
  pub one_more : OneCallMore (shelf_schedule old) (shelf_reads old) (shelf_schedule new) (shelf_reads new)

-- A call that is scheduled fails, and one that fails takes nothing.
pub record SinkObeys (old new : MemSink) (result : Result (Unit {0}) Failed) : Type 0 where
  pub fails : IsTrue (is_scheduled (sink_schedule old) (sink_calls old)) → IsTrue (is_err result)
  pub takes_nothing : OnErr result (sink_taken new ≡ sink_taken old)
  pub one_more : OneCallMore (sink_schedule old) (sink_calls old) (sink_schedule new) (sink_calls new)

-- A call that is scheduled fails, and one that fails runs nothing. Every text exits with the same number.
pub record ShellObeys (old new : MemShell) (result : Result ℕ Failed) : Type 0 where
  pub fails : IsTrue (is_scheduled (shell_schedule old) (shell_calls old)) → IsTrue (is_err result)
  pub runs_nothing : OnErr result (shell_runs new ≡ shell_runs old)
  pub exits : IfOk result (λ number. number ≡ shell_exit old)
  pub exit_stays : shell_exit new ≡ shell_exit old
  pub one_more : OneCallMore (shell_schedule old) (shell_calls old) (shell_schedule new) (shell_calls new)

-- A call that is scheduled is refused.
pub record PatternsObey {T : Type 0} (old new : MemPatterns) (result : Result T PatternsError) : Type 0 where
  pub refused : IsTrue (is_scheduled (patterns_schedule old) (patterns_calls old)) → result ≡ Err error.Refused
  pub one_more : OneCallMore (patterns_schedule old) (patterns_calls old) (patterns_schedule new) (patterns_calls new)
