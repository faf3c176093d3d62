use Rattle.plan_moves.proofs.Fuel.{number}
use Rattle.plan_moves.proofs.laws.planned.Goals as goal

pub returns : goal.returns
returns c = λ n spots ws steps d moves. number n spots ws steps d moves
