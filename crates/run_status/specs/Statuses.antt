-- The numbers of the statuses, and their texts.
use Rattle.std.specs.Prelude.{◌≡◌, ◌⊎◌, ℕ, Bool, true, false, List, [], ◌∷◌, ◌++◌, codes, decimal, Option, Some}
use Rattle.dired_text.specs.Counts.{raised}
use Rattle.dired_text.specs.Escape.{escaped}
use Rattle.dired_text.specs.Paths.{Names as Path, joined}
use Rattle.tree_core.specs.declared.faults.Faults.{Faults}
use Rattle.tree_core.specs.declared.node.CallName.{CallName}
use Rattle.tree_core.specs.declared.node.CallName.TheVariants.{Kind, Mode, IsEmpty, Meta, Names, Read, MakeDir, MakeLink, MakeHard, WriteFile, Rename, SetMode, Remove, RemoveDir, Sync}
use Rattle.tree_core.specs.Faults.{with_fault}
use Rattle.run_status.specs.declared.status.Counted.{Counted}
use Rattle.listing_text.specs.declared.faults.Field.{Field}
use Rattle.listing_text.specs.declared.faults.Field.TheVariants as field
use Rattle.wdired_buffer.specs.declared.faults.BufferCause.{BufferCause}
use Rattle.wdired_buffer.specs.declared.faults.BufferCause.TheVariants as buffer
use Rattle.run_status.specs.declared.status.Counted.TheVariants.{BufferBytes, BufferLines, Edits, PathBytes, ScriptBytes, ScriptLines}
use Rattle.run_status.specs.declared.status.LineCause.{LineCause}
use Rattle.run_status.specs.declared.status.LineCause.TheVariants as cause
use Rattle.run_status.specs.declared.status.Status.{Status}
use Rattle.run_status.specs.declared.status.Status.TheVariants.{Done, Usage, Memory, ReadFault, TreeFault, WriteFault, Missing, BadBuffer, Faulty, Unconfirmed, Stale, Pending, RolledBack, Unfinished, Unclean, BadJournal, Foreign, BadScript, TooLarge, Strange}
use Rattle.run_status.specs.Scripts.{script_line_text, script_text}

abbrev pub number_of : Status → ℕ
number_of Done = 0
number_of Usage = 1
number_of Memory = 2
number_of (ReadFault name) = 3
number_of (TreeFault first) = 4
number_of (WriteFault held) = 5
number_of (Missing name) = 6
number_of (BadBuffer name line cause) = 7
number_of (Faulty line cause) = 8
number_of (Unconfirmed line path) = 9
number_of (Stale line) = 10
number_of Pending = 11
number_of (RolledBack first) = 12
number_of (Unfinished first second) = 13
number_of (Unclean first) = 14
number_of (BadJournal offset) = 15
number_of (Foreign name) = 16
number_of (BadScript line cause) = 17
number_of (TooLarge what number) = 18
number_of (Strange step) = 21

abbrev pub call_text : CallName → List ℕ
call_text Kind = codes "kind"
call_text Mode = codes "mode"
call_text IsEmpty = codes "is_empty"
call_text Meta = codes "meta"
call_text Names = codes "names"
call_text Read = codes "read"
call_text MakeDir = codes "make_dir"
call_text MakeLink = codes "make_link"
call_text MakeHard = codes "make_hard"
call_text WriteFile = codes "write_file"
call_text Rename = codes "rename"
call_text SetMode = codes "set_mode"
call_text Remove = codes "remove"
call_text RemoveDir = codes "remove_dir"
call_text Sync = codes "sync"

abbrev pub counted_text : Counted → List ℕ
counted_text BufferBytes = codes "BufferBytes"
counted_text BufferLines = codes "BufferLines"
counted_text Edits = codes "Edits"
counted_text PathBytes = codes "PathBytes"
counted_text ScriptBytes = codes "ScriptBytes"
counted_text ScriptLines = codes "ScriptLines"

-- a path as texts have it
abbrev pub path_text : Path → List ℕ
path_text path = escaped false (joined path)

-- what is said of a cause: its name, and the number of the line or the path that it carries
abbrev pub cause_text : LineCause → List ℕ
cause_text cause.LineCount = codes "LineCount"
cause_text cause.Fixed = codes "Fixed"
cause_text cause.BadName = codes "BadName"
cause_text cause.BadMode = codes "BadMode"
cause_text cause.BadTarget = codes "BadTarget"
cause_text cause.Twice = codes "Twice"
cause_text cause.Reserved = codes "Reserved"
cause_text (cause.TwoToOne other) = codes "TwoToOne " ++ decimal other
cause_text (cause.ModeClash other) = codes "ModeClash " ++ decimal other
cause_text (cause.ParentNotDirectory path) = codes "ParentNotDirectory " ++ path_text path
cause_text (cause.MovedParent other) = codes "MovedParent " ++ decimal other
cause_text (cause.ParentTaken other) = codes "a directory to be made is taken by line " ++ decimal other
cause_text cause.PathTooLong = codes "PathTooLong"
cause_text (cause.TargetIsDirectory path) = codes "TargetIsDirectory " ++ path_text path
cause_text (cause.NotEmpty path) = codes "NotEmpty " ++ path_text path

abbrev pub field_text : Field → List ℕ
field_text field.Mark = codes "Mark"
field_text field.Kind = codes "Kind"
field_text field.Mode = codes "Mode"
field_text field.Links = codes "Links"
field_text field.Owner = codes "Owner"
field_text field.Group = codes "Group"
field_text field.Size = codes "Size"
field_text field.Date = codes "Date"
field_text field.Name = codes "Name"
field_text field.Target = codes "Target"

abbrev pub buffer_text : BufferCause → List ℕ
buffer_text buffer.FirstLine = codes "FirstLine"
buffer_text buffer.Header = codes "Header"
buffer_text buffer.Total = codes "Total"
buffer_text (buffer.Line field) = codes "Line " ++ field_text field

-- what is said of a line of an input
abbrev pub bad_line_text : List ℕ → ℕ → BufferCause → List ℕ
bad_line_text name line cause = codes "dired: " ++ escaped false name ++ codes ", line " ++ decimal line ++ codes ": " ++ buffer_text cause ++ codes "\n"

-- what is said of a line
abbrev pub line_text : ℕ → List ℕ → List ℕ
line_text line said = codes "dired: line " ++ decimal line ++ codes ": " ++ said ++ codes "\n"

-- what is said of a failed call
abbrev pub call_failed_text : List ℕ → CallName → List ℕ → List ℕ
call_failed_text said call behind = said ++ call_text call ++ behind

-- what is said of a number
abbrev pub number_text : List ℕ → ℕ → List ℕ → List ℕ
number_text said number behind = said ++ decimal number ++ behind

-- the text of a status, with names escaped; empty for one that has none
abbrev pub text_of : Status → List ℕ
text_of Done = []
text_of Usage = codes "dired: usage: list, commit, run, recover or drill\n"
text_of Memory = codes "dired: out of memory\n"
text_of (ReadFault name) = codes "dired: cannot read " ++ escaped false name ++ codes "\n"
text_of (TreeFault first) = call_failed_text (codes "dired: ") first (codes " failed; nothing was decided\n")
text_of (WriteFault held) = []
text_of (Missing name) = codes "dired: no such input: " ++ escaped false name ++ codes "\n"
text_of (BadBuffer name line cause) = bad_line_text name line cause
text_of (Faulty line cause) = line_text line (cause_text cause)
text_of (Unconfirmed line path) = line_text line (path_text path ++ codes " would be replaced")
text_of (Stale line) = line_text line (codes "the file is not as shown")
text_of Pending = codes "dired: an unfinished commit stands; run recover\n"
text_of (RolledBack first) = call_failed_text (codes "dired: ") first (codes " failed; every change was taken back\n")
text_of (Unfinished first second) =
    call_failed_text (codes "dired: ") first (codes " failed, then ") ++ call_failed_text [] second (codes " failed; run recover\n")
text_of (Unclean first) = call_failed_text (codes "dired: committed, but ") first (codes " failed; run recover\n")
text_of (BadJournal offset) = number_text (codes "dired: journal unreadable at byte ") offset (codes "\n")
text_of (Foreign name) = codes "dired: not of this program: " ++ escaped false name ++ codes "\n"
text_of (Strange step) = number_text (codes "dired: step ") step (codes ": the tree is neither before nor after it\n")
text_of (BadScript line cause) = script_line_text line (script_text cause)
text_of (TooLarge what number) = codes "dired: too large: " ++ counted_text what ++ codes " " ++ decimal number ++ codes "\n"

-- ---- What a status tells.

-- It tells that all was done; a refusal, with whether its text is written without memory; what a recovery met on its way, behind which the
-- tree may have changed; want of memory; or what failed outside.
pub data Sort : Type 0 where
  Success : Sort
  Refusal : Bool → Sort
  Encounter : Sort
  Shortage : Sort
  -- a read of this name
  Reading : List ℕ → Sort
  -- these calls of the tree, in their order
  Calls : List CallName → Sort
  -- a write, while the text of the status of this number was written
  Writing : ℕ → Sort

abbrev pub sort_of : Status → Sort
sort_of Done = Success
sort_of Usage = Refusal true
sort_of Memory = Shortage
sort_of (ReadFault name) = Reading name
sort_of (TreeFault first) = Calls (first ∷ [])
sort_of (WriteFault held) = Writing held
sort_of (Missing name) = Refusal false
sort_of (BadBuffer name line cause) = Refusal false
sort_of (Faulty line cause) = Refusal false
sort_of (Unconfirmed line path) = Refusal false
sort_of (Stale line) = Refusal false
sort_of Pending = Refusal true
sort_of (RolledBack first) = Calls (first ∷ [])
sort_of (Unfinished first second) = Calls (first ∷ second ∷ [])
sort_of (Unclean first) = Calls (first ∷ [])
sort_of (BadJournal offset) = Refusal true
sort_of (Foreign name) = Refusal false
sort_of (BadScript line cause) = Refusal false
sort_of (TooLarge what number) = Refusal false
sort_of (Strange step) = Encounter

-- whether the text is written without memory
abbrev pub has_fixed_text_of : Sort → Bool
has_fixed_text_of Success = true
has_fixed_text_of (Refusal fixed) = fixed
has_fixed_text_of Encounter = true
has_fixed_text_of Shortage = true
has_fixed_text_of (Reading name) = false
has_fixed_text_of (Calls calls) = true
has_fixed_text_of (Writing held) = true

abbrev pub has_fixed_text : Status → Bool
has_fixed_text status = has_fixed_text_of (sort_of status)

-- given before the last line is written, and not Done
abbrev pub IsRefusalOf : Sort → Type 0
IsRefusalOf Success = ⊥
IsRefusalOf (Refusal fixed) = Unit {0}
IsRefusalOf Encounter = Unit {0}
IsRefusalOf Shortage = Unit {0}
IsRefusalOf (Reading name) = Unit {0}
IsRefusalOf (Calls calls) = Unit {0}
IsRefusalOf (Writing held) = ⊥

abbrev pub IsRefusal : Status → Type 0
IsRefusal status = IsRefusalOf (sort_of status)

-- the same, where all was read
abbrev pub IsTreeRefusalOf : Sort → Type 0
IsTreeRefusalOf Success = ⊥
IsTreeRefusalOf (Refusal fixed) = Unit {0}
IsTreeRefusalOf Encounter = Unit {0}
IsTreeRefusalOf Shortage = Unit {0}
IsTreeRefusalOf (Reading name) = ⊥
IsTreeRefusalOf (Calls calls) = Unit {0}
IsTreeRefusalOf (Writing held) = ⊥

abbrev pub IsTreeRefusal : Status → Type 0
IsTreeRefusal status = IsTreeRefusalOf (sort_of status)

-- given before the last line is written
abbrev pub IsDecisionOf : Sort → Type 0
IsDecisionOf Success = Unit {0}
IsDecisionOf (Refusal fixed) = Unit {0}
IsDecisionOf Encounter = Unit {0}
IsDecisionOf Shortage = Unit {0}
IsDecisionOf (Reading name) = Unit {0}
IsDecisionOf (Calls calls) = Unit {0}
IsDecisionOf (Writing held) = ⊥

-- a fact for want of memory, for failed calls of the tree, for a failed read of a name, and for each other status
abbrev pub BySort : Sort → Type 0 → (List CallName → Type 0) → (List ℕ → Type 0) → Type 0 → Type 0
BySort Success M F G R = R
BySort (Refusal fixed) M F G R = R
BySort Encounter M F G R = R
BySort Shortage M F G R = M
BySort (Reading name) M F G R = G name
BySort (Calls calls) M F G R = F calls
BySort (Writing held) M F G R = R

abbrev pub ByCause : Status → Type 0 → (List CallName → Type 0) → (List ℕ → Type 0) → Type 0 → Type 0
ByCause status M F G R = BySort (sort_of status) M F G R

-- ---- What failed outside, and what was changed, as a status tells that was decided.

abbrev pub with_faults : List CallName → Faults → Faults
with_faults [] f = f
with_faults (call ∷ calls) f = with_faults calls (with_fault call f)

-- the failed calls of the tree: none but what it names
abbrev pub calls_behind : Sort → Faults → Faults
calls_behind Success f = f
calls_behind (Refusal fixed) f = f
calls_behind Encounter f = f
calls_behind Shortage f = f
calls_behind (Reading name) f = f
calls_behind (Calls calls) f = with_faults calls f
calls_behind (Writing held) f = f

-- how many reads had failed before and behind: no more but what it names. Want of memory may stand for a failed read, whose text has to
-- be made.
abbrev pub ReadsBehind : Sort → ℕ → ℕ → Type 0
ReadsBehind Success old new = new ≡ old
ReadsBehind (Refusal fixed) old new = new ≡ old
ReadsBehind Encounter old new = new ≡ old
ReadsBehind Shortage old new = (new ≡ old) ⊎ (new ≡ raised old)
ReadsBehind (Reading name) old new = new ≡ raised old
ReadsBehind (Calls calls) old new = new ≡ old
ReadsBehind (Writing held) old new = new ≡ old

-- the name of the last failed read
abbrev pub LastReadBehind : Sort → Option (List ℕ) → Type 0
LastReadBehind Success last = Unit {0}
LastReadBehind (Refusal fixed) last = Unit {0}
LastReadBehind Encounter last = Unit {0}
LastReadBehind Shortage last = Unit {0}
LastReadBehind (Reading name) last = last ≡ Some name
LastReadBehind (Calls calls) last = Unit {0}
LastReadBehind (Writing held) last = Unit {0}

-- no changing call was done behind a refusal, want of memory or a failed read: what is told before and behind is the same
abbrev pub IsKeptBehind : {A : Type 0} → Sort → A → A → Type 0
IsKeptBehind Success old new = Unit {0}
IsKeptBehind (Refusal fixed) old new = new ≡ old
IsKeptBehind Encounter old new = Unit {0}
IsKeptBehind Shortage old new = new ≡ old
IsKeptBehind (Reading name) old new = new ≡ old
IsKeptBehind (Calls calls) old new = Unit {0}
IsKeptBehind (Writing held) old new = Unit {0}
