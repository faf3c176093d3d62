use Rattle.std.proofs.Common.{◌≡◌, ◌++◌, flat_map, length}
use Rattle.std.specs.String.{string_bytes}
use denote.Text.{Utf8}
use denote.Shadow.{shadow}
use Rattle.shell_subst.specs.Commands.{filled, pieces_from, put}
use Rattle.shell_subst.proofs.substituting.fill.Given as goal

abbrev pub invariant-loop-token : goal.invariant-loop-token
invariant-loop-token l =
    shadow (Utf8 l.rest)
    × (filled l.shown l.text ≡ string_bytes l.command ++ flat_map (put l.shown) (pieces_from l.after_blank 0 l.rest))

abbrev pub decreases-loop-token : goal.decreases-loop-token
decreases-loop-token l = length l.rest
