use Rattle.std.proofs.Common.{length}
use Rattle.edit_rules.proofs.bytes.+bytes_below.Given as goal

abbrev pub decreases-bytes_below : goal.decreases-bytes_below
decreases-bytes_below l = length l.names.now
