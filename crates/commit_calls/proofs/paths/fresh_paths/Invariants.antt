use Rattle.std.proofs.Common.{◌≡◌}
use Rattle.commit_calls.specs.Paths.{fresh_entry_paths}
use Rattle.commit_calls.proofs.paths.fresh_paths.Given as goal

abbrev pub invariant-loop-number : goal.invariant-loop-number
invariant-loop-number l = record { made : l.paths.items ≡ fresh_entry_paths l.number }
