use Rattle.std.proofs.Common.{◌≡◌, ◌+◌, length}
use denote.Text.{Utf8}
use denote.Shadow.{shadow}
use Rattle.dired_text.specs.Resolve.{walked, components}
use Rattle.dired_text.proofs.resolving.walk.Given as goal

abbrev pub invariant-loop-component : goal.invariant-loop-component
invariant-loop-component l =
    shadow (Utf8 l.rest)
    × (l.place + length l.rest ≡ length l.text)
    × (walked l.fn.names.items 0 (components l.text) ≡ walked l.names.items l.place (components l.rest))

abbrev pub decreases-loop-component : goal.decreases-loop-component
decreases-loop-component l = length l.rest
