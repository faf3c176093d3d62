use Rattle.std.proofs.Common.{◌≡◌, ◌++◌, drop}
use Rattle.staging_names.specs.Entries.{entries_named}
use Rattle.staging_names.proofs.entries.push_named.Given as goal

abbrev pub invariant-loop-step : goal.invariant-loop-step
invariant-loop-step l = l.entries.items ++ entries_named (drop l.step-index l.steps) ≡ l.fn.entries.items ++ entries_named l.steps
