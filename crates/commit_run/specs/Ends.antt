-- How a run of a commit ends: what stands, and where the last failed call stood.
use Rattle.std.specs.Prelude.{◌≡◌, ◌⊎◌, Bool, false, List, Result, Ok, Err}
use Rattle.commit_run.specs.declared.end.CommitEnd.{CommitEnd}
use Rattle.commit_run.specs.declared.end.CommitEnd.TheVariants as end
use Rattle.commit_states.specs.Interrupted.{IsInterruptedBy, IsWritten, ending}
use Rattle.commit_states.specs.Places.{AmongGroups, AtSeal, InStaging, SealOrBehind}
use Rattle.commit_steps.specs.declared.step.Step.{Step}
use Rattle.step_trees.specs.Entries.{rest}
use Rattle.tree_core.specs.declared.node.CallName.{CallName}
use Rattle.tree_core.specs.declared.node.CallName.TheVariants as name
use Rattle.tree_core.specs.declared.node.Change.TheVariants.{Sync}
use Rattle.tree_core.specs.declared.node.Node.{Node}
use Rattle.tree_core.specs.FileTree.{FileTree}
use Rattle.tree_core.specs.History.{History, Then, current_tree, IsCrashState, IsDurable, LeavesOnly}

-- The steps of a commit, the history with which it begins, the tree to which the steps lead, and the entries that it makes.
pub record Run : Type 0 where
  pub steps : List Step
  pub begun : History
  pub new : FileTree
  pub made : List Node

-- the tree with which it begins
abbrev pub old_tree : History → FileTree
old_tree begun = current_tree begun

-- It may stand where the commit was stopped, and where a journal stands it is that of the steps, of version 2.
abbrev pub MayStand : Run → FileTree → Type 0
MayStand run t = IsInterruptedBy (IsWritten run.steps) run.steps (old_tree run.begun) run.new run.made t

-- Recovery leads to the edited tree, in this direction (`true`: back).
abbrev pub LeadsToEdited : Run → Bool → FileTree → Type 0
LeadsToEdited run way t = (row : MayStand run t) × (ending way row ≡ run.new)

-- what stands in the end
abbrev pub EndsAs : Run → History → CommitEnd → Type 0
EndsAs run now end.Done = (current_tree now ≡ run.new) × IsDurable now
EndsAs run now end.Memory = now ≡ run.begun
EndsAs run now (end.TreeFault first) = (now ≡ run.begun) ⊎ (now ≡ Then run.begun Sync)
EndsAs run now (end.RolledBack first) = (current_tree now ≡ old_tree run.begun) × IsDurable now
EndsAs run now (end.Unfinished first second) = MayStand run (current_tree now)
EndsAs run now (end.Unclean first) =
    (rest (current_tree now) ≡ run.new)
    × ((way : Bool) → LeadsToEdited run way (current_tree now))
    × ((c : FileTree) → IsCrashState now c → LeadsToEdited run false c)

-- A crash at any moment left a tree that may stand where the commit was stopped, and so it ended.
pub record Ended (run : Run) (now : History) (ended : CommitEnd) : Type 0 where
  pub moments : LeavesOnly run.begun now (MayStand run)
  pub stands : EndsAs run now ended

-- Where the last failed call stood, by the tree before it, where it tells how far the commit was.
abbrev pub StoodAt : Run → FileTree → CommitEnd → Type 0
StoodAt run before end.Done = Unit {0}
StoodAt run before end.Memory = Unit {0}
StoodAt run before (end.TreeFault first) = (first ≡ name.Sync) × (before ≡ old_tree run.begun)
StoodAt run before (end.RolledBack first) = InStaging run.steps (old_tree run.begun) first before ⊎ (AmongGroups run.steps before ⊎ AtSeal run.steps first before)
StoodAt run before (end.Unfinished first second) = Unit {0}
StoodAt run before (end.Unclean first) = SealOrBehind run.steps run.new first before

-- the end behind a way back, where this call failed first
abbrev pub end_behind : {T : Type 0} → CallName → Result T CallName → CommitEnd
end_behind first (Ok value) = end.RolledBack first
end_behind first (Err second) = end.Unfinished first second
