-- How commands, steps and scripts end.
use Rattle.std.proofs.Common.{◌≡◌, ◌⊎◌, inl, inr, ℕ, ◌+◌, ◌≤◌, ◌==◌, nat_lt, Bool, true, false, List, [], ◌∷◌, ◌++◌, length, Option, Some, None, Result, Ok, Err, IfErr, ap, refl, sym, subst, arith, append-nil, ◌∙◌}
use Rattle.std.proofs.lemmas.Bool.{cases_Bool, eqb-true, ltb-false}
use Rattle.std.proofs.lemmas.List.{nil_from_length}
use Rattle.dired_text.specs.Outside.{TakesPartOf}
use Rattle.find_words.specs.Expressions.{Everything, Expression}
use Rattle.find_words.specs.declared.fault.FindFault.{FindFault}
use Rattle.listing_text.specs.Reading.{◌>>=◌}
use Rattle.run_status.specs.declared.status.Status.{Status}
use Rattle.run_status.specs.declared.status.Status.TheVariants as status
use Rattle.script_words.specs.Commands.{IsCommandAt, SaysAt, by_row, by_word, command_at}
use Rattle.script_words.specs.Lines.{line_at}
use Rattle.script_words.specs.Rows.{Row, row_of}
use Rattle.script_words.specs.Words.{word_of}
use Rattle.script_words.specs.declared.command.Asked.{Asked}
use Rattle.script_words.specs.declared.command.Command.{Command}
use Rattle.script_words.specs.declared.command.Command.TheVariants as command
use Rattle.script_words.specs.declared.fault.CommandFault.{CommandFault}
use Rattle.script_words.specs.declared.fault.CommandFault.TheVariants as fault
use Rattle.script_words.specs.declared.fault.ScriptCause.TheVariants as cause
use Rattle.dired_session.specs.Desks.{Desk, Seen}
use Rattle.dired_session.specs.Ends.{DoesBy, EndsAs, EndsBy, IsDeskEnd, IsPrintEnd, IsStepEnd, IsWritten, Printing, StepPrinting, StepsBy, Tally, counts_behind, ended_by, failed_look, fault_status, of_printed}
use Rattle.dired_session.specs.Scripts.{IsUnopened}
use Rattle.dired_session.specs.Steps.{Did, Step, and_goes_on, change, does, does_read, prints, silently, step, step_of}

abbrev Saying : Type 0
Saying = Result Expression FindFault

-- ---- commands

-- a command that prints
pub prints_done : (result : Result (Unit {0}) Status) (text : List ℕ) (d : Desk) → IfErr result IsPrintEnd → DoesBy (prints text d) d (of_printed result text) result
prints_done (Ok done) text d ends = refl
prints_done (Err status.Done) text d ends = absurd ends
prints_done (Err status.Usage) text d ends = absurd ends
prints_done (Err status.Memory) text d ends = refl
prints_done (Err (status.ReadFault name)) text d ends = absurd ends
prints_done (Err (status.TreeFault first)) text d ends = absurd ends
prints_done (Err (status.WriteFault held)) text d ends = refl
prints_done (Err (status.Missing name)) text d ends = absurd ends
prints_done (Err (status.BadBuffer name line cause)) text d ends = absurd ends
prints_done (Err (status.Faulty line cause)) text d ends = absurd ends
prints_done (Err (status.Unconfirmed line path)) text d ends = absurd ends
prints_done (Err (status.Stale line)) text d ends = absurd ends
prints_done (Err status.Pending) text d ends = absurd ends
prints_done (Err (status.RolledBack first)) text d ends = absurd ends
prints_done (Err (status.Unfinished first second)) text d ends = absurd ends
prints_done (Err (status.Unclean first)) text d ends = absurd ends
prints_done (Err (status.BadJournal offset)) text d ends = absurd ends
prints_done (Err (status.Foreign name)) text d ends = absurd ends
prints_done (Err (status.BadScript line cause)) text d ends = absurd ends
prints_done (Err (status.TooLarge what number)) text d ends = absurd ends
prints_done (Err (status.Strange step)) text d ends = absurd ends

-- what it asks for is neither of the two commands that print
pub does_other : (at : ℕ) (asked : Command) (o : Seen) (d : Desk) → (asked ≡ command.Count → ⊥) → (asked ≡ command.Print → ⊥) → does at asked o d ≡ silently (change at asked d)
does_other at (command.At p) o d not_count not_print = refl
does_other at (command.Put m) o d not_count not_print = refl
does_other at (command.Change r) o d not_count not_print = refl
does_other at (command.MarkWhere m t) o d not_count not_print = refl
does_other at command.MarkBytes o d not_count not_print = refl
does_other at (command.Insert p) o d not_count not_print = refl
does_other at (command.TakeOut p) o d not_count not_print = refl
does_other at (command.Turn p) o d not_count not_print = refl
does_other at command.Kill o d not_count not_print = refl
does_other at (command.Relist s) o d not_count not_print = refl
does_other at (command.Find e) o d not_count not_print = refl
does_other at command.Count o d not_count not_print = absurd (not_count refl)
does_other at command.Print o d not_count not_print = absurd (not_print refl)
does_other at command.Omit o d not_count not_print = refl
does_other at command.Undo o d not_count not_print = refl
does_other at (command.Confirm p) o d not_count not_print = refl
does_other at (command.Commits c) o d not_count not_print = refl
does_other at (command.Shell t) o d not_count not_print = refl

-- a command that prints nothing
pub changes_done : (result : Result (Unit {0}) Status) (wanted : Result Desk Status) (now : Desk) → EndsAs wanted now result → IfErr result IsDeskEnd → DoesBy (silently wanted) now [] result
changes_done (Ok done) wanted now e ends = ap silently e
changes_done (Err status.Done) wanted now e ends = absurd ends
changes_done (Err status.Usage) wanted now e ends = absurd ends
changes_done (Err status.Memory) wanted now e ends = refl
changes_done (Err (status.ReadFault name)) wanted now e ends = absurd ends
changes_done (Err (status.TreeFault first)) wanted now e ends = absurd ends
changes_done (Err (status.WriteFault held)) wanted now e ends = absurd ends
changes_done (Err (status.Missing name)) wanted now e ends = absurd ends
changes_done (Err (status.BadBuffer name line cause)) wanted now e ends = absurd ends
changes_done (Err (status.Faulty line cause)) wanted now e ends = absurd ends
changes_done (Err (status.Unconfirmed line path)) wanted now e ends = absurd ends
changes_done (Err (status.Stale line)) wanted now e ends = absurd ends
changes_done (Err status.Pending) wanted now e ends = absurd ends
changes_done (Err (status.RolledBack first)) wanted now e ends = absurd ends
changes_done (Err (status.Unfinished first second)) wanted now e ends = absurd ends
changes_done (Err (status.Unclean first)) wanted now e ends = absurd ends
changes_done (Err (status.BadJournal offset)) wanted now e ends = absurd ends
changes_done (Err (status.Foreign name)) wanted now e ends = absurd ends
changes_done (Err (status.BadScript line cause)) wanted now (inl e) ends = cc
changes_done (Err (status.BadScript line cause)) wanted now (inr e) ends = (ap silently e, refl)
changes_done (Err (status.TooLarge what number)) wanted now e ends = absurd ends
changes_done (Err (status.Strange step)) wanted now e ends = absurd ends

pub silent_written : (result : Result (Unit {0}) Status) (taken : List ℕ) → IfErr result IsDeskEnd → IsWritten (ended_by result) [] taken taken
silent_written (Ok done) taken ends = sym (append-nil taken)
silent_written (Err status.Done) taken ends = absurd ends
silent_written (Err status.Usage) taken ends = absurd ends
silent_written (Err status.Memory) taken ends = sym (append-nil taken)
silent_written (Err (status.ReadFault name)) taken ends = absurd ends
silent_written (Err (status.TreeFault first)) taken ends = absurd ends
silent_written (Err (status.WriteFault held)) taken ends = absurd ends
silent_written (Err (status.Missing name)) taken ends = absurd ends
silent_written (Err (status.BadBuffer name line cause)) taken ends = absurd ends
silent_written (Err (status.Faulty line cause)) taken ends = absurd ends
silent_written (Err (status.Unconfirmed line path)) taken ends = absurd ends
silent_written (Err (status.Stale line)) taken ends = absurd ends
silent_written (Err status.Pending) taken ends = absurd ends
silent_written (Err (status.RolledBack first)) taken ends = absurd ends
silent_written (Err (status.Unfinished first second)) taken ends = absurd ends
silent_written (Err (status.Unclean first)) taken ends = absurd ends
silent_written (Err (status.BadJournal offset)) taken ends = absurd ends
silent_written (Err (status.Foreign name)) taken ends = absurd ends
silent_written (Err (status.BadScript line cause)) taken ends = sym (append-nil taken)
silent_written (Err (status.TooLarge what number)) taken ends = absurd ends
silent_written (Err (status.Strange step)) taken ends = absurd ends

pub silent_look : (result : Result (Unit {0}) Status) → IfErr result IsDeskEnd → failed_look (ended_by result) ≡ None
silent_look (Ok done) ends = refl
silent_look (Err status.Done) ends = absurd ends
silent_look (Err status.Usage) ends = absurd ends
silent_look (Err status.Memory) ends = refl
silent_look (Err (status.ReadFault name)) ends = absurd ends
silent_look (Err (status.TreeFault first)) ends = absurd ends
silent_look (Err (status.WriteFault held)) ends = absurd ends
silent_look (Err (status.Missing name)) ends = absurd ends
silent_look (Err (status.BadBuffer name line cause)) ends = absurd ends
silent_look (Err (status.Faulty line cause)) ends = absurd ends
silent_look (Err (status.Unconfirmed line path)) ends = absurd ends
silent_look (Err (status.Stale line)) ends = absurd ends
silent_look (Err status.Pending) ends = absurd ends
silent_look (Err (status.RolledBack first)) ends = absurd ends
silent_look (Err (status.Unfinished first second)) ends = absurd ends
silent_look (Err (status.Unclean first)) ends = absurd ends
silent_look (Err (status.BadJournal offset)) ends = absurd ends
silent_look (Err (status.Foreign name)) ends = absurd ends
silent_look (Err (status.BadScript line cause)) ends = refl
silent_look (Err (status.TooLarge what number)) ends = absurd ends
silent_look (Err (status.Strange step)) ends = absurd ends

pub silent_counts : (result : Result (Unit {0}) Status) (counts : Tally) → IfErr result IsDeskEnd → counts ≡ counts_behind (ended_by result) counts
silent_counts (Ok done) counts ends = refl
silent_counts (Err status.Done) counts ends = absurd ends
silent_counts (Err status.Usage) counts ends = absurd ends
silent_counts (Err status.Memory) counts ends = refl
silent_counts (Err (status.ReadFault name)) counts ends = absurd ends
silent_counts (Err (status.TreeFault first)) counts ends = absurd ends
silent_counts (Err (status.WriteFault held)) counts ends = absurd ends
silent_counts (Err (status.Missing name)) counts ends = absurd ends
silent_counts (Err (status.BadBuffer name line cause)) counts ends = absurd ends
silent_counts (Err (status.Faulty line cause)) counts ends = absurd ends
silent_counts (Err (status.Unconfirmed line path)) counts ends = absurd ends
silent_counts (Err (status.Stale line)) counts ends = absurd ends
silent_counts (Err status.Pending) counts ends = absurd ends
silent_counts (Err (status.RolledBack first)) counts ends = absurd ends
silent_counts (Err (status.Unfinished first second)) counts ends = absurd ends
silent_counts (Err (status.Unclean first)) counts ends = absurd ends
silent_counts (Err (status.BadJournal offset)) counts ends = absurd ends
silent_counts (Err (status.Foreign name)) counts ends = absurd ends
silent_counts (Err (status.BadScript line cause)) counts ends = refl
silent_counts (Err (status.TooLarge what number)) counts ends = absurd ends
silent_counts (Err (status.Strange step)) counts ends = absurd ends

pub silent_ends : (result : Result (Unit {0}) Status) → IfErr result IsDeskEnd → IfErr result IsStepEnd
silent_ends (Ok done) ends = tt
silent_ends (Err status.Done) ends = absurd ends
silent_ends (Err status.Usage) ends = absurd ends
silent_ends (Err status.Memory) ends = tt
silent_ends (Err (status.ReadFault name)) ends = absurd ends
silent_ends (Err (status.TreeFault first)) ends = absurd ends
silent_ends (Err (status.WriteFault held)) ends = absurd ends
silent_ends (Err (status.Missing name)) ends = absurd ends
silent_ends (Err (status.BadBuffer name line cause)) ends = absurd ends
silent_ends (Err (status.Faulty line cause)) ends = absurd ends
silent_ends (Err (status.Unconfirmed line path)) ends = absurd ends
silent_ends (Err (status.Stale line)) ends = absurd ends
silent_ends (Err status.Pending) ends = absurd ends
silent_ends (Err (status.RolledBack first)) ends = absurd ends
silent_ends (Err (status.Unfinished first second)) ends = absurd ends
silent_ends (Err (status.Unclean first)) ends = absurd ends
silent_ends (Err (status.BadJournal offset)) ends = absurd ends
silent_ends (Err (status.Foreign name)) ends = absurd ends
silent_ends (Err (status.BadScript line cause)) ends = tt
silent_ends (Err (status.TooLarge what number)) ends = absurd ends
silent_ends (Err (status.Strange step)) ends = absurd ends

-- ---- steps

no_length : (line : List ℕ) → (length line == 0) ≡ true → line ≡ []
no_length line is = nil_from_length line (eqb-true (length line) 0 is)

-- an empty line
pub empty_step : (lines : List (List ℕ)) (at : ℕ) (o : Seen) (d : Desk) (line : List ℕ) → line ≡ line_at lines at → (length line == 0) ≡ true → StepsBy lines at o d d [] (Ok (at + 1))
empty_step lines at o d line is empty =
    let e : line_at lines at ≡ [] = sym is ∙ no_length line empty in
    inr (Ok Everything, subst (λ l. SaysAt lines at (word_of l) (Ok Everything)) (sym e) tt, ap (λ l. step_of (Ok Everything) lines at o d l) e)

-- a line that isn't empty is a command
full_step : (said : Saying) (lines : List (List ℕ)) (at : ℕ) (o : Seen) (d : Desk) (line : List ℕ) → (length line == 0) ≡ false → step_of said lines at o d line ≡ does_read at o d (command_at said lines at)
full_step said lines at o d [] full = let wrong : true ≡ false = full in cc
full_step said lines at o d (b ∷ line) full = refl

step_is : (said : Saying) (lines : List (List ℕ)) (at : ℕ) (o : Seen) (d : Desk) (line : List ℕ) → line ≡ line_at lines at → (length line == 0) ≡ false → step said lines at o d ≡ does_read at o d (command_at said lines at)
step_is said lines at o d line is full = ap (λ l. step_of said lines at o d l) (sym is) ∙ full_step said lines at o d line full

-- a line that is no command, or whose arguments can't be read
pub fault_step : (lines : List (List ℕ)) (at : ℕ) (o : Seen) (d : Desk) (line : List ℕ) (found : CommandFault) → line ≡ line_at lines at → (length line == 0) ≡ false
    → IsCommandAt lines at (Err found) → StepsBy lines at o d d [] (Err (fault_status found))
fault_step lines at o d line fault.Memory is full reads = inl (refl, refl)
fault_step lines at o d line (fault.Bad bad because) is full (inl e) = cc
fault_step lines at o d line (fault.Bad bad because) is full (inr (said, says, e)) =
    inr (said, says, (step_is said lines at o d line is full ∙ ap (does_read at o d) (sym e), refl))

printing_on : (wanted : Result Did Status) (next : ℕ) (text : List ℕ) → Printing text wanted → StepPrinting text (and_goes_on next wanted)
printing_on (Ok did) next text is = is
printing_on (Err refused) next text is = absurd is

abbrev with_next : ℕ → Result (Unit {0}) Status → Result ℕ Status
with_next next (Ok done) = Ok next
with_next next (Err refused) = Err refused

goes_on : (wanted : Result Did Status) (now : Desk) (text : List ℕ) (next : ℕ) (result : Result (Unit {0}) Status) → DoesBy wanted now text result → EndsBy (and_goes_on next wanted) now text (with_next next result)
goes_on wanted now text next (Ok done) e = ap (and_goes_on next) e
goes_on wanted now text next (Err status.Done) e = (ap (and_goes_on next) e.0, e.1)
goes_on wanted now text next (Err status.Usage) e = (ap (and_goes_on next) e.0, e.1)
goes_on wanted now text next (Err status.Memory) e = e
goes_on wanted now text next (Err (status.ReadFault name)) e = (ap (and_goes_on next) e.0, e.1)
goes_on wanted now text next (Err (status.TreeFault first)) e = e
goes_on wanted now text next (Err (status.WriteFault held)) e = printing_on wanted next text e
goes_on wanted now text next (Err (status.Missing name)) e = (ap (and_goes_on next) e.0, e.1)
goes_on wanted now text next (Err (status.BadBuffer name line cause)) e = (ap (and_goes_on next) e.0, e.1)
goes_on wanted now text next (Err (status.Faulty line cause)) e = (ap (and_goes_on next) e.0, e.1)
goes_on wanted now text next (Err (status.Unconfirmed line path)) e = (ap (and_goes_on next) e.0, e.1)
goes_on wanted now text next (Err (status.Stale line)) e = (ap (and_goes_on next) e.0, e.1)
goes_on wanted now text next (Err status.Pending) e = (ap (and_goes_on next) e.0, e.1)
goes_on wanted now text next (Err (status.RolledBack first)) e = (ap (and_goes_on next) e.0, e.1)
goes_on wanted now text next (Err (status.Unfinished first second)) e = (ap (and_goes_on next) e.0, e.1)
goes_on wanted now text next (Err (status.Unclean first)) e = (ap (and_goes_on next) e.0, e.1)
goes_on wanted now text next (Err (status.BadJournal offset)) e = (ap (and_goes_on next) e.0, e.1)
goes_on wanted now text next (Err (status.Foreign name)) e = (ap (and_goes_on next) e.0, e.1)
goes_on wanted now text next (Err (status.BadScript line cause)) e = (ap (and_goes_on next) e.0, e.1)
goes_on wanted now text next (Err (status.TooLarge what number)) e = (ap (and_goes_on next) e.0, e.1)
goes_on wanted now text next (Err (status.Strange step)) e = (ap (and_goes_on next) e.0, e.1)

-- a command that was read, and ended so
pub command_step : (lines : List (List ℕ)) (at : ℕ) (o : Seen) (d now : Desk) (line text : List ℕ) (read : Asked × ℕ) (result : Result (Unit {0}) Status) → line ≡ line_at lines at → (length line == 0) ≡ false
    → IsCommandAt lines at (Ok read) → DoesBy (does at read.0.command o d) now text result → StepsBy lines at o d now text (with_next read.1 result)
command_step lines at o d now line text read result is full (inl e) done = cc
command_step lines at o d now line text read result is full (inr (said, says, e)) done =
    inr (
      said,
      says,
      subst (λ (s : Result Step Status). EndsBy s now text (with_next read.1 result)) (sym (step_is said lines at o d line is full ∙ ap (does_read at o d) (sym e)))
          (goes_on (does at read.0.command o d) now text read.1 result done),
    )

-- ---- the line behind a command

bound : {A B E : Type 0} (r : Result A E) (f : A → Result B E) (b : B) → (r >>= f) ≡ Ok b → (a : A) × (r ≡ Ok a) × (f a ≡ Ok b)
bound (Ok a) f b e = (a, refl, e)
bound (Err x) f b e = cc

row_within : (lines : List (List ℕ)) (at : ℕ) (row : Row) (read : Asked × ℕ) → by_row lines at row ≡ Ok read → (at + 1 ≤ read.1) × (read.1 ≤ length lines + 1)
row_within lines at row read e = elim (cases_Bool (nat_lt (length lines) (at + row.arguments))) [
  | inl few ↦ let wrong : Err (fault.Bad (length lines + 1) cause.MissingArgument) ≡ Ok read = rw few at e in cc
  | inr enough ↦
      let reads : (row.read lines at >>= λ asked. Ok (asked, at + row.arguments + 1)) ≡ Ok read = rw enough at e in
      let b = bound (row.read lines at) (λ asked. Ok (asked, at + row.arguments + 1)) read reads in
      let same : (b.0, at + row.arguments + 1) ≡ read = cc in
      let next : at + row.arguments + 1 ≡ read.1 = ap (λ (r : Asked × ℕ). r.1) same in
      let within : at + row.arguments ≤ length lines = ltb-false (length lines) (at + row.arguments) enough in
      (omega (arith, next), omega (arith, next, within))
]

pub next_within : (lines : List (List ℕ)) (at : ℕ) (read : Asked × ℕ) → IsCommandAt lines at (Ok read) → (at + 1 ≤ read.1) × (read.1 ≤ length lines + 1)
next_within lines at read (inl e) = cc
next_within lines at read (inr (said, says, e)) = go (word_of (line_at lines at)) (sym e)
  where
    go : (w : Option _) → by_word said lines at w ≡ Ok read → (at + 1 ≤ read.1) × (read.1 ≤ length lines + 1)
    go None e = cc
    go (Some word) e = row_within lines at (row_of said word) read e

-- ---- scripts

pub unopened_written : (ended : Status) (taken : List ℕ) → IsUnopened ended → IsWritten ended [] taken taken
unopened_written status.Done taken ends = absurd ends
unopened_written status.Usage taken ends = absurd ends
unopened_written status.Memory taken ends = sym (append-nil taken)
unopened_written (status.ReadFault name) taken ends = absurd ends
unopened_written (status.TreeFault first) taken ends = sym (append-nil taken)
unopened_written (status.WriteFault held) taken ends = absurd ends
unopened_written (status.Missing name) taken ends = absurd ends
unopened_written (status.BadBuffer name line cause) taken ends = absurd ends
unopened_written (status.Faulty line cause) taken ends = absurd ends
unopened_written (status.Unconfirmed line path) taken ends = absurd ends
unopened_written (status.Stale line) taken ends = absurd ends
unopened_written status.Pending taken ends = absurd ends
unopened_written (status.RolledBack first) taken ends = absurd ends
unopened_written (status.Unfinished first second) taken ends = absurd ends
unopened_written (status.Unclean first) taken ends = absurd ends
unopened_written (status.BadJournal offset) taken ends = absurd ends
unopened_written (status.Foreign name) taken ends = absurd ends
unopened_written (status.BadScript line cause) taken ends = absurd ends
unopened_written (status.TooLarge what number) taken ends = absurd ends
unopened_written (status.Strange step) taken ends = absurd ends

pub fault_written : (found : CommandFault) (taken : List ℕ) → IsWritten (fault_status found) [] taken taken
fault_written (fault.Bad line because) taken = sym (append-nil taken)
fault_written fault.Memory taken = sym (append-nil taken)
