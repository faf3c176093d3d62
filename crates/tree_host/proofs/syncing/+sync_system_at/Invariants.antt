use Rattle.std.proofs.Common.{length}
use Rattle.tree_host.proofs.syncing.+sync_system_at.Given as goal

abbrev pub decreases-sync_system_at : goal.decreases-sync_system_at
decreases-sync_system_at g l = length l.names.now
