-- Where a commit was when a call of it failed, by the tree that stood before that call.
use Rattle.std.specs.Prelude.{◌≡◌, ◌⊎◌, List, length}
use Rattle.tree_core.specs.FileTree.{FileTree, IsAbsent, IsDir, IsFile, Stands}
use Rattle.tree_core.specs.declared.node.CallName.{CallName}
use Rattle.tree_core.specs.declared.node.CallName.TheVariants as name
use Rattle.commit_steps.specs.declared.step.Step.{Step}
use Rattle.commit_steps.specs.Staging.{staging, staged, plan, sealed, undone, at_marker}
use Rattle.step_trees.specs.Entries.{rest}
use Rattle.commit_states.specs.Interrupted.{JournalAt, IsWritten}

-- no journal has its name
pub record HasNoJournal (t : FileTree) : Type 0 where
  pub no_plan : IsAbsent t (staged plan)
  pub no_seal : IsAbsent t (staged sealed)
  pub no_undone : IsAbsent t (staged undone)

-- among the groups: the staging directory and `plan` stood
pub record AmongGroups (steps : List Step) (t : FileTree) : Type 0 where
  pub dir : IsDir t staging
  pub journal : JournalAt (IsWritten steps) t plan

-- at the seal itself: `plan` and the last marker stood
pub record AtSeal (steps : List Step) (first : CallName) (t : FileTree) : Type 0 where
  pub call_is : first ≡ name.Rename
  pub journal : JournalAt (IsWritten steps) t plan
  pub marked : IsFile t (staged (at_marker (length steps)))

-- at the seal or behind it: `done` stood, or no journal any more and the rest was the edited tree
abbrev pub SealOrBehind : List Step → FileTree → CallName → FileTree → Type 0
SealOrBehind steps new first t = AtSeal steps first t ⊎ (Stands t (staged sealed) ⊎ (HasNoJournal t × (rest t ≡ new)))

-- in the staging: the directory was to be made, and the old tree stood; or it stood, with `plan`, or without a journal and with the
-- old tree as the rest
abbrev pub InStaging : List Step → FileTree → CallName → FileTree → Type 0
InStaging steps old first t =
    ((first ≡ name.MakeDir) × (t ≡ old)) ⊎ (IsDir t staging × (JournalAt (IsWritten steps) t plan ⊎ (HasNoJournal t × (rest t ≡ old))))
