use Rattle.std.proofs.Common.{◌≡◌, ◌+◌, length}
use Rattle.std.specs.String.{string_bytes}
use denote.Text.{Utf8}
use denote.Shadow.{shadow}
use Rattle.dired_text.specs.Escape.{in_front, unescaped, unescaped_from}
use Rattle.dired_text.proofs.escaping.unescape.Given as goal

abbrev pub invariant-loop-raw : goal.invariant-loop-raw
invariant-loop-raw l =
    shadow (Utf8 l.rest)
    × (l.place + length l.rest ≡ length l.text)
    × (unescaped l.text ≡ in_front (string_bytes l.plain) (unescaped_from l.place 0 l.rest))

abbrev pub decreases-loop-raw : goal.decreases-loop-raw
decreases-loop-raw l = length l.rest
