use Rattle.std.proofs.Common.{refl}
use Rattle.commit_recover.specs.declared.end.RecoverEnd.TheVariants as recovery
use Rattle.dired_run.specs.Runs.{recovered}
use Rattle.dired_run.proofs.recovery.recover_tree.Goals as goal

pub returns-in-Nothing-clause-decides : goal.returns-in-Nothing-clause-decides
returns-in-Nothing-clause-decides g c tells reads reads_now last last_now same =
    recovered c.args.back recovery.Nothing refl (c.in-Nothing.ensures.recovers tells) (c.in-Nothing.ensures.answers tells) c.in-Nothing.ensures.faults same refl refl

pub returns-in-Edited-clause-decides : goal.returns-in-Edited-clause-decides
returns-in-Edited-clause-decides g c tells reads reads_now last last_now same =
    recovered c.args.back recovery.Edited refl (c.in-Edited.ensures.recovers tells) (c.in-Edited.ensures.answers tells) c.in-Edited.ensures.faults same refl refl

pub returns-in-Old-clause-decides : goal.returns-in-Old-clause-decides
returns-in-Old-clause-decides g c tells reads reads_now last last_now same =
    recovered c.args.back recovery.Old refl (c.in-Old.ensures.recovers tells) (c.in-Old.ensures.answers tells) c.in-Old.ensures.faults same refl refl

pub returns-in-Cleared-clause-decides : goal.returns-in-Cleared-clause-decides
returns-in-Cleared-clause-decides g c tells reads reads_now last last_now same =
    recovered c.args.back recovery.Cleared refl (c.in-Cleared.ensures.recovers tells) (c.in-Cleared.ensures.answers tells) c.in-Cleared.ensures.faults same refl refl

pub returns-in-Memory-clause-decides : goal.returns-in-Memory-clause-decides
returns-in-Memory-clause-decides g c tells reads reads_now last last_now same =
    recovered c.args.back recovery.Memory refl (c.in-Memory.ensures.recovers tells) (c.in-Memory.ensures.answers tells) c.in-Memory.ensures.faults same refl refl

pub returns-in-TreeFault-clause-decides : goal.returns-in-TreeFault-clause-decides
returns-in-TreeFault-clause-decides g c tells reads reads_now last last_now same =
    recovered c.args.back (recovery.TreeFault c.in-TreeFault.first) refl (c.in-TreeFault.ensures.recovers tells) (c.in-TreeFault.ensures.answers tells) c.in-TreeFault.ensures.faults same refl refl

pub returns-in-BadJournal-clause-decides : goal.returns-in-BadJournal-clause-decides
returns-in-BadJournal-clause-decides g c tells reads reads_now last last_now same =
    recovered c.args.back (recovery.BadJournal c.in-BadJournal.offset) refl (c.in-BadJournal.ensures.recovers tells) (c.in-BadJournal.ensures.answers tells) c.in-BadJournal.ensures.faults same refl refl

pub returns-in-Foreign-clause-decides : goal.returns-in-Foreign-clause-decides
returns-in-Foreign-clause-decides g c tells reads reads_now last last_now same =
    recovered c.args.back (recovery.Foreign c.in-Foreign.name) refl (c.in-Foreign.ensures.recovers tells) (c.in-Foreign.ensures.answers tells) c.in-Foreign.ensures.faults same refl refl

pub returns-in-Strange-clause-decides : goal.returns-in-Strange-clause-decides
returns-in-Strange-clause-decides g c tells reads reads_now last last_now same =
    recovered c.args.back (recovery.Strange c.in-Strange.step) refl (c.in-Strange.ensures.recovers tells) (c.in-Strange.ensures.answers tells) c.in-Strange.ensures.faults same refl refl
