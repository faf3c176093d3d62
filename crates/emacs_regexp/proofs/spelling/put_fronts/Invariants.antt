use Rattle.std.proofs.Common.{◌≡◌, ◌++◌}
use Rattle.emacs_regexp.specs.Backwards.{fronts}
use Rattle.emacs_regexp.proofs.spelling.put_fronts.Given as goal

abbrev pub invariant-loop : goal.invariant-loop
invariant-loop l = l.backwards ≡ fronts l.counter ++ l.fn.backwards
