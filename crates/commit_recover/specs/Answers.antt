-- What a recovery answers in any tree that tells what it contains. The conditions of the answers exclude one another, so each comes
-- exactly where its own holds, unless memory ran out or a call failed.
use Rattle.std.specs.Prelude.{◌≡◌, ◌⊎◌, Bool, [], ◌∷◌}
use Rattle.commit_recover.specs.declared.end.RecoverEnd.{RecoverEnd}
use Rattle.commit_recover.specs.declared.end.RecoverEnd.TheVariants as end
use Rattle.commit_recover.specs.Courses.{course_of, end_of, unless_strange}
use Rattle.commit_steps.specs.Staging.{staging}
use Rattle.recovery_courses.specs.Course.{Course}
use Rattle.recovery_start.specs.declared.leftovers.Leftovers.{Leftovers}
use Rattle.recovery_start.specs.Start.{IsBadAt, IsForeign, IsSortedOut, IsStanding}
use Rattle.step_looks.specs.Undoing.{LookedIn}
use Rattle.tree_core.specs.declared.node.CallName.{CallName}
use Rattle.tree_core.specs.declared.node.Change.TheVariants.{Sync}
use Rattle.tree_core.specs.FileTree.{FileTree, IsAbsent}
use Rattle.tree_core.specs.History.{History, Then, current_tree}
use Rattle.tree_core.specs.Runs.{FailedIn, then_all}

-- It found this, and nothing of it is foreign.
pub record HasFound (h : History) (l : Leftovers) : Type 0 where
  pub sorted : IsSortedOut l
  pub standing : IsStanding (current_tree h) l

-- its course behind the first sync
abbrev pub course_behind : Leftovers → Bool → History → Course
course_behind l way begun = course_of l way (Then begun Sync)

-- All of its calls were done, and it ended as it should or at the strange thing that it met.
pub record IsCarriedOut (way : Bool) (begun now : History) (ended : RecoverEnd) : Type 0 where
  pub left : Leftovers
  pub found : HasFound begun left
  pub history : now ≡ then_all (Then begun Sync) (course_behind left way begun).calls
  pub ends : ended ≡ unless_strange (course_behind left way begun).strange (end_of left way)

-- A call of its course failed, or a look between them.
pub record IsStopped (way : Bool) (begun now : History) (before : FileTree) (first : CallName) : Type 0 where
  pub left : Leftovers
  pub found : HasFound begun left
  pub where_failed : FailedIn (Sync ∷ (course_behind left way begun).calls) begun now before first
      ⊎ LookedIn (Sync ∷ (course_behind left way begun).calls) begun now before

-- a look before the first sync failed, that sync where nothing stands, or a call or a look behind it
abbrev pub Faulted : Bool → History → History → FileTree → CallName → Type 0
Faulted way begun now before first =
    ((now ≡ begun) × (before ≡ current_tree begun))
    ⊎ ((IsAbsent (current_tree begun) staging × FailedIn (Sync ∷ []) begun now before first) ⊎ IsStopped way begun now before first)

abbrev pub Answers : Bool → History → History → FileTree → RecoverEnd → Type 0
Answers way begun now before end.Nothing = IsAbsent (current_tree begun) staging × (now ≡ Then begun Sync)
Answers way begun now before end.Edited = IsCarriedOut way begun now end.Edited
Answers way begun now before end.Old = IsCarriedOut way begun now end.Old
Answers way begun now before end.Cleared = IsCarriedOut way begun now end.Cleared
Answers way begun now before end.Memory = now ≡ begun
Answers way begun now before (end.TreeFault first) = Faulted way begun now before first
Answers way begun now before (end.BadJournal offset) = IsBadAt (current_tree begun) offset × (now ≡ begun)
Answers way begun now before (end.Foreign name) = IsForeign (current_tree begun) name × (now ≡ begun)
Answers way begun now before (end.Strange step) = IsCarriedOut way begun now (end.Strange step)
