use Rattle.std.proofs.Common.{◌≡◌, length}
use Rattle.name_patterns.specs.Patterns.{has}
use Rattle.name_patterns.proofs.patterns.has.Given as goal

abbrev pub invariant-loop-found : goal.invariant-loop-found
invariant-loop-found l = has l.c l.members ≡ has l.c l.rest

abbrev pub decreases-loop-found : goal.decreases-loop-found
decreases-loop-found l = length l.rest
