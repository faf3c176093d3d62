use Rattle.std.proofs.Common.{◌≡◌, ◌++◌, drop}
use Rattle.std.specs.List.{filter_map}
use Rattle.staging_names.specs.Entries.{entries_found}
use Rattle.staging_names.proofs.entries.entries_found.Given as goal

abbrev pub invariant-loop-one : goal.invariant-loop-one
invariant-loop-one l = l.entries.items ++ entries_found (drop l.one-index l.found) ≡ entries_found l.found
