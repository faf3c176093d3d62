use Rattle.std.proofs.Common.{All, take}
use Rattle.commit_plan.specs.Promises.{HasNames}
use Rattle.commit_plan.proofs.planning.read_names.Given as goal

abbrev pub invariant-loop-row : goal.invariant-loop-row
invariant-loop-row l = All HasNames (take l.row-index l.rows)
