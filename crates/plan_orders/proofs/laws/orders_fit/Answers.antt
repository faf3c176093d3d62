use Rattle.plan_orders.proofs.FitLemmas.{orders_fit}
use Rattle.plan_orders.proofs.laws.orders_fit.Goals as goal

pub returns : goal.returns
returns c = orders_fit
