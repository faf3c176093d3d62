use Rattle.std.proofs.Common.{◌≡◌, ◌+◌, drop, length}
use Rattle.dired_text.specs.Paths.{path_bytes, slashed}
use Rattle.edit_rules.proofs.bytes.names_len.Given as goal

abbrev pub invariant-loop-name : goal.invariant-loop-name
invariant-loop-name l = l.bytes + length (slashed (drop l.name-index l.rest)) ≡ path_bytes l.names
