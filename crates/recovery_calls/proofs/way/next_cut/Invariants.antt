use Rattle.std.proofs.Common.{◌≡◌, drop, nat_lt}
use Rattle.std.specs.List.{filter}
use Rattle.recovery_calls.proofs.way.next_cut.Given as goal

abbrev pub invariant-loop-end : goal.invariant-loop-end
invariant-loop-end l = filter (nat_lt l.from) l.ends ≡ filter (nat_lt l.from) (drop l.end-index l.ends)
