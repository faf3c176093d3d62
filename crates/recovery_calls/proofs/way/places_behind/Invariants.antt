use Rattle.std.proofs.Common.{◌≡◌, ◌∷◌, ◌++◌, drop, nat_lt}
use Rattle.std.specs.List.{filter}
use Rattle.recovery_calls.proofs.way.places_behind.Given as goal

abbrev pub invariant-loop-end : goal.invariant-loop-end
invariant-loop-end l = l.places.items ++ filter (nat_lt l.from) (drop l.end-index l.ends) ≡ l.from ∷ filter (nat_lt l.from) l.ends
