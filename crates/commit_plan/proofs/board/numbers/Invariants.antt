use Rattle.commit_plan.proofs.ListLemmas.{AreBelow}
use Rattle.commit_plan.proofs.board.numbers.Given as goal

abbrev pub invariant-loop-i : goal.invariant-loop-i
invariant-loop-i l = AreBelow l.i l.all.items
