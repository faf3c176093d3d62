use Rattle.std.proofs.Common.{◌≡◌, ◌++◌, length, flat_map}
use Rattle.std.specs.Prelude.{codes}
use Rattle.emacs_regexp.specs.Spelling.{spelled_member}
use Rattle.emacs_regexp.proofs.spelling.put_set.Given as goal

abbrev pub invariant-loop-member : goal.invariant-loop-member
invariant-loop-member l = flat_map spelled_member l.rest ++ l.backwards ≡ flat_map spelled_member l.members ++ (codes "]" ++ l.fn.backwards)

abbrev pub decreases-loop-member : goal.decreases-loop-member
decreases-loop-member l = length l.rest
