use Rattle.std.proofs.Common.{◌≡◌, take, map}
use Rattle.commit_steps.specs.Staging.{staged}
use Rattle.recovery_start.proofs.paths.staged_paths.Given as goal

abbrev pub invariant-loop-name : goal.invariant-loop-name
invariant-loop-name l = l.paths.items ≡ map staged (take l.name-index l.names)
