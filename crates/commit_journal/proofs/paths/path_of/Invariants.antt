use Rattle.std.proofs.Common.{length}
use Rattle.commit_journal.proofs.TextLemmas.{Walked}
use Rattle.commit_journal.proofs.paths.path_of.Given as goal

abbrev pub invariant-loop-name : goal.invariant-loop-name
invariant-loop-name l = Walked l.text l.names.items l.rest

abbrev pub decreases-loop-name : goal.decreases-loop-name
decreases-loop-name l = length l.rest
