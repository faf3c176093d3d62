use Rattle.std.proofs.Common.{◌≡◌, ◌+◌, length, drop}
use Rattle.dired_text.specs.Paths.{slashed}
use Rattle.commit_steps.proofs.path_sizes.slashed_bytes.Given as goal

abbrev pub invariant-loop-name : goal.invariant-loop-name
invariant-loop-name l = l.bytes + length (slashed (drop l.name-index l.names)) ≡ length (slashed l.names)
