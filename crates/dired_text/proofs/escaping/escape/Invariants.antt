use Rattle.std.proofs.Common.{◌≡◌, encode_utf8_all}
use Rattle.std.specs.String.{string_bytes}
use Rattle.dired_text.specs.Escape.{escaped}
use Rattle.dired_text.proofs.escaping.escape.Given as goal

abbrev pub invariant-loop-c : goal.invariant-loop-c
invariant-loop-c l = string_bytes l.line ≡ escaped l.in_link (encode_utf8_all l.yielded)
