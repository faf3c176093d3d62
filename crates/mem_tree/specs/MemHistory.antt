-- What a tree in memory tells, when its calls fail, and what each leaves of what is told.
use Rattle.std.specs.Prelude.{◌≡◌, ◌⊎◌, ℕ, ◌-◌, ◌^◌, ◌≤◌, Bool, true, false, List, [], ◌∷◌, ◌++◌, map, Option, None, Some, IsTrue, is_some, is_err, take, if◌then◌else◌, Result}
use Rattle.dired_text.specs.Counts.{raised, Rose}
use Rattle.dired_text.specs.Paths.{Names as names}
use Rattle.dired_text.specs.declared.text.Failed.{Failed}
use Rattle.tree_core.specs.declared.node.CallName.{CallName}
use Rattle.tree_core.specs.declared.node.CallName.TheVariants.{Kind, Mode, IsEmpty, Meta, Names, Read, MakeDir, MakeLink, MakeHard, WriteFile, Rename, SetMode, Remove, RemoveDir, Sync}
use Rattle.tree_core.specs.declared.node.Change.{Change}
use Rattle.tree_core.specs.declared.faults.Faults.{Faults}
use Rattle.tree_core.specs.declared.meta.Meta.{Meta as meta}
use Rattle.tree_core.specs.declared.meta.LookEnd.{LookEnd}
use Rattle.tree_core.specs.declared.meta.ReadEnd.{ReadEnd}
use Rattle.tree_core.specs.Faults.{with_fault, HasCause, LookHasCause, ReadHasCause}
use Rattle.tree_core.specs.FileTree.{FileTree}
use Rattle.tree_core.specs.History.{History, Began, Then, current_tree, next_number, Performs, FailedAt, LookFailedAt, ReadFailedAt, IsCrashState}
use Rattle.tree_core.specs.SubLists.{pending_calls}
use Rattle.mem_tree.specs.declared.mem.MemTree.{MemTree}
use Rattle.mem_tree.specs.Stores.{times_of}
use Rattle.mem_tree.specs.Times.{Times}
use Rattle.mem_tree.specs.Records.{history_of, scheduled, is_listed, NeedsMore}
use Rattle.mem_tree.specs.MemFields.{fields_of}
use Rattle.mem_tree.specs.declared.choices.Choice.{Choice}
use Rattle.mem_tree.specs.Choices.{takes}
use Rattle.mem_tree.specs.Images.{Stand, picked, ArePair, AreImages, sub_lists, stand_of, synced_history}

-- the history up to a call of its record
abbrev pub history_first : ℕ → MemTree → History
history_first count m = history_of m.began m.first_number (take count m.attempts.items)

-- all that a tree in memory tells
pub record Told : Type 0 where
  pub history : History
  -- the tree that read just before the last failed call
  pub before_failed : FileTree
  -- of the tree that it began with
  pub times : Times
  pub faults : Faults
  -- how many calls failed because memory was refused
  pub short : ℕ
  -- which changing calls fail, and whether each is done all the same, and how many were made since that was said
  pub failing_changes : List (ℕ × Bool)
  pub changes_made : ℕ
  -- the same of looks
  pub failing_looks : List ℕ
  pub looks_made : ℕ

abbrev pub told : MemTree → Told
told m = record {
  history = history_of m.began m.first_number m.attempts.items;
  before_failed = current_tree (history_first m.before_fault m);
  times = times_of m.began;
  faults = m.faults;
  short = m.short;
  failing_changes = m.failing_changes.items;
  changes_made = m.changes_made;
  failing_looks = m.failing_looks.items;
  looks_made = m.looks_made;
}

abbrev pub history_told : MemTree → History
history_told m = (told m).history

abbrev pub before_failed_told : MemTree → FileTree
before_failed_told m = (told m).before_failed

abbrev pub tree_told : MemTree → FileTree
tree_told m = current_tree (history_told m)

-- the tree that reads, with its times
abbrev pub stand_told : MemTree → Stand
stand_told m = stand_of (history_told m) (told m).times

-- the fields at each path
abbrev pub fields_told : MemTree → names → meta
fields_told m = fields_of (stand_told m).tree (stand_told m).times

-- of this history and these times, no call failed and none is to fail
abbrev pub untouched : History → Times → Told
untouched h times = record {
  history = h;
  before_failed = current_tree h;
  times = times;
  faults = record { count = 0; last = None; last_before = None };
  short = 0;
  failing_changes = [];
  changes_made = 0;
  failing_looks = [];
  looks_made = 0;
}

-- ---- the images

-- nothing is pending, nothing has failed and nothing is to fail, and this is the next number
abbrev pub IsUntouched : ℕ → MemTree → Type 0
IsUntouched next m = told m ≡ untouched (Began (stand_told m).tree next) (stand_told m).times

-- the images of these sub-lists of the calls
abbrev pub ImagesFor : List Choice → List (ℕ × Change) → Stand → List MemTree → Type 0
ImagesFor choices calls from images = AreImages (map (λ c. picked (takes c) calls) choices) from (map stand_told images)

-- the list has grown by the two images of a sub-list
pub record GrewByPair (calls : List (ℕ × Change)) (from : Stand) (next : ℕ) (old new : List MemTree) : Type 0 where
  pub one : MemTree
  pub other : MemTree
  pub grown : new ≡ old ++ one ∷ other ∷ []
  pub pair : ArePair calls from (stand_told one) (stand_told other)
  pub one_untouched : IsUntouched next one
  pub other_untouched : IsUntouched next other

-- ---- the schedules

-- whether the next changing call is to fail, and then whether it is done all the same
abbrev pub next_fate : Told → Option Bool
next_fate t = scheduled t.failing_changes t.changes_made

-- whether the next look is to fail
abbrev pub next_look_fails : Told → Bool
next_look_fails t = is_listed t.failing_looks t.looks_made

-- where the call failed, that is noted
abbrev pub noted : CallName → Bool → Told → Told
noted call true t = record t { before_failed = current_tree t.history; faults = with_fault call t.faults }
noted call false t = t

-- a changing call for which there was no memory before it was begun
abbrev pub refused : CallName → Told → Told
refused call t = record (noted call true t) { short = raised t.short; changes_made = raised t.changes_made }

-- as the schedule has it: a call that it doesn't name is done and Ok, and one that it names fails, and is done where it says so
abbrev pub IsFate : Option Bool → Change → History → History → Bool → Type 0
IsFate None change old new failed = (failed ≡ false) × (new ≡ Then old change)
IsFate (Some is_done) change old new failed = (failed ≡ true) × (new ≡ (if is_done then Then old change else old))

-- memory was refused, which is counted
pub record RanShort (failed : Bool) (old new : Told) : Type 0 where
  pub short : new.short ≡ raised old.short
  pub fails : failed ≡ true
  pub undone : new.history ≡ old.history

-- no number is left for the file
pub record RanOut (change : Change) (failed : Bool) (old new : Told) : Type 0 where
  pub short : new.short ≡ old.short
  pub fails : failed ≡ true
  pub undone : new.history ≡ old.history
  pub ends : NeedsMore change (next_number old.history)

-- it went as the schedule has it
pub record WentAsTold (change : Change) (failed : Bool) (old new : Told) : Type 0 where
  pub short : new.short ≡ old.short
  pub fate : IsFate (next_fate old) change old.history new.history failed

-- What a changing call leaves of what is told. It counts as made, and nothing else changes.
pub record ChangeMade (call : CallName) (change : Change) (failed : Bool) (old new : Told) : Type 0 where
  pub fate : RanShort failed old new ⊎ (RanOut change failed old new ⊎ WentAsTold change failed old new)
  pub rest : new ≡ record (noted call failed old) { history = new.history; short = new.short; changes_made = raised old.changes_made }

-- What a look leaves of what is told. It fails exactly where the schedule names it. It counts as made, and nothing else changes.
pub record LookMade (call : CallName) (failed : Bool) (old new : Told) : Type 0 where
  pub fate : failed ≡ next_look_fails old
  pub rest : new ≡ record (noted call failed old) { looks_made = raised old.looks_made }

-- ---- the same of two trees in memory, and what every tree tells of its calls

abbrev pub PerformsTold : {T : Type 0} → Change → MemTree → MemTree → Result T Failed → Type 0
PerformsTold change old new result = Performs change (history_told old) (history_told new) result

abbrev pub ChangeTold : {T : Type 0} → CallName → Change → MemTree → MemTree → Result T Failed → Type 0
ChangeTold call change old new result = ChangeMade call change (is_err result) (told old) (told new)

abbrev pub LookTold : CallName → Bool → MemTree → MemTree → Type 0
LookTold call failed old new = LookMade call failed (told old) (told new)

-- the tree before the last failed call
abbrev pub FailedAtTold : {T : Type 0} → MemTree → MemTree → Result T Failed → Type 0
FailedAtTold old new result = FailedAt result (history_told old) (before_failed_told old) (before_failed_told new)

abbrev pub LookFailedAtTold : {T : Type 0} → MemTree → MemTree → Result T LookEnd → Type 0
LookFailedAtTold old new result = LookFailedAt result (history_told old) (before_failed_told old) (before_failed_told new)

abbrev pub ReadFailedAtTold : {T : Type 0} → MemTree → MemTree → Result T ReadEnd → Type 0
ReadFailedAtTold old new result = ReadFailedAt result (history_told old) (before_failed_told old) (before_failed_told new)

-- the count of failed calls
abbrev pub HasCauseTold : {T : Type 0} → CallName → MemTree → MemTree → Result T Failed → Type 0
HasCauseTold call old new result = HasCause call (told old).faults (told new).faults result

abbrev pub LookHasCauseTold : {T : Type 0} → CallName → MemTree → MemTree → Result T LookEnd → Type 0
LookHasCauseTold call old new result = LookHasCause call (told old).faults (told new).faults result

abbrev pub ReadHasCauseTold : {T : Type 0} → CallName → MemTree → MemTree → Result T ReadEnd → Type 0
ReadHasCauseTold call old new result = ReadHasCause call (told old).faults (told new).faults result

-- what stood at the last sync, with its times
abbrev pub stand_synced : MemTree → Stand
stand_synced m = stand_of (synced_history (history_told m)) (told m).times

-- the images are those of the sub-lists of what is pending
abbrev pub ImagesTold : MemTree → List MemTree → Type 0
ImagesTold m images = AreImages (sub_lists (pending_calls (history_told m))) (stand_synced m) (map stand_told images)

-- a crash now may leave the tree that the other one shows
abbrev pub MayLeave : MemTree → MemTree → Type 0
MayLeave m image = IsCrashState (history_told m) (tree_told image)

-- ---- when a call may fail

abbrev pub LookMayFail : MemTree → Type 0
LookMayFail old = IsTrue (next_look_fails (told old))

abbrev pub ChangeMayFail : MemTree → MemTree → Type 0
ChangeMayFail old new = IsTrue (is_some (next_fate (told old))) ⊎ Rose (told old).short (told new).short

-- no number is left for a file
abbrev pub NumbersEnd : MemTree → Type 0
NumbersEnd m = 2 ^ 64 - 1 ≤ next_number (history_told m)

-- A look may fail where its schedule names it, and a changing call also where memory was refused or no number is left.
abbrev pub MayFailAs : CallName → MemTree → MemTree → Type 0
MayFailAs Kind old new = LookMayFail old
MayFailAs Mode old new = LookMayFail old
MayFailAs IsEmpty old new = LookMayFail old
MayFailAs Meta old new = LookMayFail old
MayFailAs Names old new = LookMayFail old
MayFailAs Read old new = LookMayFail old
MayFailAs MakeDir old new = ChangeMayFail old new
MayFailAs MakeLink old new = ChangeMayFail old new
MayFailAs MakeHard old new = ChangeMayFail old new
MayFailAs WriteFile old new = ChangeMayFail old new ⊎ NumbersEnd old
MayFailAs Rename old new = ChangeMayFail old new
MayFailAs SetMode old new = ChangeMayFail old new
MayFailAs Remove old new = ChangeMayFail old new
MayFailAs RemoveDir old new = ChangeMayFail old new
MayFailAs Sync old new = ChangeMayFail old new
