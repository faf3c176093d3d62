use Rattle.std.proofs.Common.{length}
use Rattle.edit_rules.proofs.rules.+first_missing.Given as goal

abbrev pub decreases-first_missing : goal.decreases-first_missing
decreases-first_missing l = length l.claims.now
