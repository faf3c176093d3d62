-- What a recovery takes with it behind its start, and what it does then.
use Rattle.std.specs.Prelude.{◌≡◌, Bool, true, false, ◌∷◌, Some, None, Result, IfOk}
use Rattle.commit_calls.specs.Parts.{unstaging_calls}
use Rattle.commit_calls.specs.Paths.{ArePaths}
use Rattle.commit_recover.specs.declared.end.RecoverEnd.{RecoverEnd}
use Rattle.commit_recover.specs.declared.end.RecoverEnd.TheVariants as end
use Rattle.commit_recover.specs.declared.task.Task.{Task}
use Rattle.commit_recover.specs.declared.task.Task.TheVariants.{Clear, Seal, Undo, Forward, Back, Turn}
use Rattle.commit_recover.specs.Courses.{unless_strange}
use Rattle.commit_recover.specs.Items.{AreItems, other_items}
use Rattle.commit_steps.specs.Staging.{at_marker, back_marker}
use Rattle.recovery_calls.specs.declared.work.Work.{Work}
use Rattle.recovery_calls.specs.Closing.{closed_calls}
use Rattle.recovery_calls.specs.Works.{IsMarked, IsTurn, IsWork, LeadsBack, LeadsForward, entries_of}
use Rattle.recovery_courses.specs.Course.{Course, these}
use Rattle.recovery_courses.specs.Ends.{back_from, forward_from, turned_back_from}
use Rattle.recovery_start.specs.declared.leftovers.Leftovers.{Leftovers}
use Rattle.staging_names.specs.declared.staged_name.Journal.TheVariants.{Plan, Done, Undone}
use Rattle.staging_names.specs.declared.staged_name.Side.TheVariants as side
use Rattle.step_looks.specs.Undoing.{RanOrLooked}
use Rattle.tree_core.specs.declared.node.CallName.{CallName}
use Rattle.tree_core.specs.declared.node.Change.TheVariants.{Sync}
use Rattle.tree_core.specs.FileTree.{FileTree}
use Rattle.tree_core.specs.History.{History, Then}
use Rattle.tree_core.specs.Runs.{CanAll}

-- ---- what is taken

-- the steps, and the entries that were read or that a step names
pub record IsWorkFor (l : Leftovers) (w : Work) : Type 0 where
  pub work : IsWork w
  pub steps : w.steps ≡ l.steps
  pub entries : entries_of w ≡ l.entries.items

-- It is the task for what was found; `true` is the way back.
abbrev pub IsTaskFor : Leftovers → Bool → Task → Type 0
IsTaskFor l back (Clear entries paths) = (l.standing.journal ≡ None) × (entries.items ≡ l.paths.items) × ArePaths paths
IsTaskFor l back (Seal items paths) = (l.standing.journal ≡ Some Done) × AreItems (other_items l) items.items × ArePaths paths
IsTaskFor l back (Undo items paths) = (l.standing.journal ≡ Some Undone) × AreItems (other_items l) items.items × ArePaths paths
IsTaskFor l back (Forward work way) =
    (l.standing ≡ record { journal = Some Plan; marker = Some (record { side = side.At; number = way.from }) }) × (back ≡ false) × IsWorkFor l work × LeadsForward l.steps way
IsTaskFor l back (Back work way) =
    (l.standing ≡ record { journal = Some Plan; marker = Some (record { side = side.Back; number = way.from }) }) × IsWorkFor l work × LeadsBack l.steps way
IsTaskFor l back (Turn work turn) =
    (l.standing ≡ record { journal = Some Plan; marker = Some (record { side = side.At; number = turn.here.from }) }) × (back ≡ true) × IsWorkFor l work × IsTurn l.steps turn

-- ---- what is done

-- what it takes is lawful
abbrev pub IsReady : Task → Type 0
IsReady (Clear entries paths) = Unit {0}
IsReady (Seal items paths) = Unit {0}
IsReady (Undo items paths) = Unit {0}
IsReady (Forward work way) = IsWork work × LeadsForward work.steps way
IsReady (Back work way) = IsWork work × LeadsBack work.steps way
IsReady (Turn work turn) = IsWork work × IsTurn work.steps turn

-- its calls can be made, or what they need stands
abbrev pub CanCarryOut : Task → History → Type 0
CanCarryOut (Clear entries paths) h = CanAll (unstaging_calls entries.items paths.staging) h
CanCarryOut (Seal items paths) h = CanAll (closed_calls items.items paths.sealed paths.staging) h
CanCarryOut (Undo items paths) h = CanAll (closed_calls items.items paths.undone paths.staging) h
CanCarryOut (Forward work way) h = IsMarked (at_marker way.from) work h
CanCarryOut (Back work way) h = IsMarked (back_marker way.from) work h
CanCarryOut (Turn work turn) h = IsMarked (at_marker turn.here.from) work h

-- its course, by what it takes
abbrev pub task_course : Task → History → Course
task_course (Clear entries paths) h = these (unstaging_calls entries.items paths.staging)
task_course (Seal items paths) h = these (closed_calls items.items paths.sealed paths.staging)
task_course (Undo items paths) h = these (closed_calls items.items paths.undone paths.staging)
task_course (Forward work way) h = forward_from work.steps way.from (entries_of work) h
task_course (Back work way) h = back_from work.steps way.from (entries_of work) h
task_course (Turn work turn) h = turned_back_from work.steps turn.here.from (entries_of work) h

-- how it ends, unless something strange was found
abbrev pub task_end : Task → RecoverEnd
task_end (Clear entries paths) = end.Cleared
task_end (Seal items paths) = end.Edited
task_end (Undo items paths) = end.Old
task_end (Forward work way) = end.Edited
task_end (Back work way) = end.Old
task_end (Turn work turn) = end.Old

-- the ends of a recovery that did what it found to do, or met something strange
abbrev pub is_worked : RecoverEnd → Bool
is_worked end.Nothing = false
is_worked end.Edited = true
is_worked end.Old = true
is_worked end.Cleared = true
is_worked end.Memory = false
is_worked (end.TreeFault first) = false
is_worked (end.BadJournal offset) = false
is_worked (end.Foreign name) = false
is_worked (end.Strange step) = true

-- Its calls, with looks between them, and how it ended.
pub record FollowsTask (task : Task) (old new : History) (before behind : FileTree) (result : Result RecoverEnd CallName) : Type 0 where
  pub ran : RanOrLooked (task_course task old).calls old new before behind result
  pub ends : IfOk result (λ ended. ended ≡ unless_strange (task_course task old).strange (task_end task))

-- The same behind a first sync.
pub record FollowsSynced (task : Task) (old new : History) (before behind : FileTree) (result : Result RecoverEnd CallName) : Type 0 where
  pub ran : RanOrLooked (Sync ∷ (task_course task (Then old Sync)).calls) old new before behind result
  pub ends : IfOk result (λ ended. ended ≡ unless_strange (task_course task (Then old Sync)).strange (task_end task))
