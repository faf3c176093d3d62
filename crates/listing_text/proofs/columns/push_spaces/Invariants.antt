use Rattle.std.proofs.Common.{◌≡◌, ◌++◌}
use Rattle.listing_text.specs.Listed.{spaces}
use Rattle.listing_text.proofs.columns.push_spaces.Given as goal

abbrev pub invariant-loop : goal.invariant-loop
invariant-loop l = l.text.items ≡ l.initial.text.items ++ spaces l.counter
