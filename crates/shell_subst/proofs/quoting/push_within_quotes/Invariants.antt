use Rattle.std.proofs.Common.{◌≡◌, ◌++◌, flat_map, encode_utf8_all}
use Rattle.std.specs.String.{string_bytes}
use Rattle.shell_subst.specs.Quoting.{within_quotes}
use Rattle.shell_subst.proofs.quoting.push_within_quotes.Given as goal

abbrev pub invariant-loop-c : goal.invariant-loop-c
invariant-loop-c l = string_bytes l.word ≡ string_bytes l.fn.word ++ flat_map within_quotes (encode_utf8_all l.yielded)
