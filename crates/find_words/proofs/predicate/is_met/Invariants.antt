use Rattle.std.proofs.Common.{◌≡◌, length}
use Rattle.find_words.specs.Expressions.{value_of}
use Rattle.find_words.specs.Programs.{run}
use Rattle.find_words.proofs.predicate.is_met.Given as goal

abbrev pub invariant-loop-operation : goal.invariant-loop-operation
invariant-loop-operation l = run l.now l.name l.meta l.rest l.stack ≡ value_of l.now l.name l.meta l.predicate

abbrev pub decreases-loop-operation : goal.decreases-loop-operation
decreases-loop-operation l = length l.rest
