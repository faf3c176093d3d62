use Rattle.std.proofs.Common.{drop}
use Rattle.commit_plan.proofs.WayLemmas.{IsUnderWay}
use Rattle.commit_plan.proofs.moves.moves.Given as goal

abbrev pub invariant-loop-source : goal.invariant-loop-source
invariant-loop-source l = IsUnderWay l.fn.rows.items l.number (drop l.source-index l.source-items) l.board l.steps.items
