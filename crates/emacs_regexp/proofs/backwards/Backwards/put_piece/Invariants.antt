use Rattle.std.proofs.Common.{◌≡◌, ◌++◌, length}
use Rattle.emacs_regexp.proofs.backwards.Backwards.put_piece.Given as goal

abbrev pub invariant-loop-byte : goal.invariant-loop-byte
invariant-loop-byte l = l.rest ++ l.self ≡ l.piece ++ l.fn.self

abbrev pub decreases-loop-byte : goal.decreases-loop-byte
decreases-loop-byte l = length l.rest
