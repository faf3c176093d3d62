use Rattle.plan_moves.proofs.Fuel.{at_most}
use Rattle.plan_moves.proofs.laws.knots_at_most.Goals as goal

pub returns : goal.returns
returns c = λ ws d. at_most ws d
