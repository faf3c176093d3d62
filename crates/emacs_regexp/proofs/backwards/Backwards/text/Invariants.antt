use Rattle.std.proofs.Common.{◌≡◌, ◌++◌, reverse, length, encode_utf8_all}
use Rattle.std.specs.String.{string_bytes}
use Rattle.emacs_regexp.proofs.backwards.Backwards.text.Given as goal

abbrev pub invariant-loop-c : goal.invariant-loop-c
invariant-loop-c l = string_bytes l.text ++ encode_utf8_all (reverse l.rest) ≡ encode_utf8_all l.self

abbrev pub decreases-loop-c : goal.decreases-loop-c
decreases-loop-c l = length l.rest
