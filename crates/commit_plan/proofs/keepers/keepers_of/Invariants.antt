use Rattle.commit_plan.proofs.KeeperLemmas.{HasKeepersBelow}
use Rattle.commit_plan.proofs.keepers.keepers_of.Given as goal

abbrev pub invariant-loop-i : goal.invariant-loop-i
invariant-loop-i l = HasKeepersBelow l.i l.changes l.keepers
