use Rattle.std.proofs.Common.{◌<◌, length}
use Rattle.edit_rules.proofs.places.last_sent.Given as goal

abbrev pub invariant-loop-at : goal.invariant-loop-at
invariant-loop-at l = l.last < length l.routes
