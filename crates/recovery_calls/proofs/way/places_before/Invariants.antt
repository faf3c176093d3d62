use Rattle.std.proofs.Common.{◌≡◌, ◌∷◌, ◌++◌, drop, nat_lt}
use Rattle.std.specs.List.{filter}
use Rattle.recovery_calls.proofs.way.places_before.Given as goal

abbrev pub invariant-loop-end : goal.invariant-loop-end
invariant-loop-end l = l.places.items ++ filter (λ end. nat_lt end l.from) (drop l.end-index l.ends) ≡ 0 ∷ filter (λ end. nat_lt end l.from) l.ends
