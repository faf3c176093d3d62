use Rattle.std.proofs.Common.{◌≡◌, length, ◌-◌, ◌<◌, ◌≤◌, ◌^◌}
use Rattle.find_words.specs.Arguments.{value_from}
use Rattle.find_words.proofs.arguments.number.Given as goal

abbrev pub invariant-loop-c : goal.invariant-loop-c
invariant-loop-c l = (value_from l.base 0 l.digits ≡ value_from l.base l.value l.rest) × (l.value < l.base ^ (length l.digits - length l.rest)) × (length l.rest ≤ length l.digits)

abbrev pub decreases-loop-c : goal.decreases-loop-c
decreases-loop-c l = length l.rest
