use Rattle.std.proofs.Common.{length}
use Rattle.tree_host.proofs.syncing.+sync_at.Given as goal

abbrev pub decreases-sync_at : goal.decreases-sync_at
decreases-sync_at g l = length l.names.now
