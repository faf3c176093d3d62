use Rattle.std.proofs.Common.{◌≡◌, ◌+◌, length, drop}
use Rattle.std.specs.Str.{chars}
use denote.Text.{Utf8}
use denote.Shadow.{shadow}
use Rattle.emacs_regexp.specs.Places.{byte_place as byte_place_of}
use Rattle.emacs_regexp.proofs.places.byte_place.Given as goal

abbrev pub invariant-loop : goal.invariant-loop
invariant-loop l =
    shadow (Utf8 l.rest)
    × (chars l.rest ≡ drop l.counter (chars l.text))
    × (length l.text ≡ byte_place_of (chars l.text) l.counter + length l.rest)
