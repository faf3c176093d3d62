use Rattle.std.proofs.Common.{◌≡◌, take}
use Rattle.commit_calls.specs.Paths.{held_entry_paths}
use Rattle.commit_calls.proofs.paths.held_paths.Given as goal

abbrev pub invariant-loop-one : goal.invariant-loop-one
invariant-loop-one l = record { made : l.paths.items ≡ held_entry_paths (take l.one-index l.held) }
