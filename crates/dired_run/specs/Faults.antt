-- The statuses of how a commit and a recovery end.
use Rattle.commit_run.specs.declared.end.CommitEnd.{CommitEnd}
use Rattle.commit_run.specs.declared.end.CommitEnd.TheVariants as end
use Rattle.commit_recover.specs.declared.end.RecoverEnd.{RecoverEnd}
use Rattle.commit_recover.specs.declared.end.RecoverEnd.TheVariants as recovery
use Rattle.run_status.specs.declared.status.Status.{Status}
use Rattle.run_status.specs.declared.status.Status.TheVariants as status

-- how a commit ended
abbrev pub status_of_commit : CommitEnd → Status
status_of_commit end.Done = status.Done
status_of_commit end.Memory = status.Memory
status_of_commit (end.TreeFault first) = status.TreeFault first
status_of_commit (end.RolledBack first) = status.RolledBack first
status_of_commit (end.Unfinished first second) = status.Unfinished first second
status_of_commit (end.Unclean first) = status.Unclean first

-- how a recovery ended
abbrev pub status_of_recovery : RecoverEnd → Status
status_of_recovery recovery.Nothing = status.Done
status_of_recovery recovery.Edited = status.Done
status_of_recovery recovery.Old = status.Done
status_of_recovery recovery.Cleared = status.Done
status_of_recovery recovery.Memory = status.Memory
status_of_recovery (recovery.TreeFault first) = status.TreeFault first
status_of_recovery (recovery.BadJournal offset) = status.BadJournal offset
status_of_recovery (recovery.Foreign name) = status.Foreign name
status_of_recovery (recovery.Strange step) = status.Strange step
