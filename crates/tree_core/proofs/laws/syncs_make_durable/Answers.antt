use Rattle.tree_core.proofs.Moments.{durable-sync, crash_state-failed_sync}
use Rattle.tree_core.proofs.laws.syncs_make_durable.Goals as goal

pub returns-clause-durable : goal.returns-clause-durable
returns-clause-durable c = durable-sync

pub returns-clause-failed : goal.returns-clause-failed
returns-clause-failed c = crash_state-failed_sync
