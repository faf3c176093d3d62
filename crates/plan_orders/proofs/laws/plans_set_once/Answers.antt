use Rattle.plan_orders.proofs.OnceLemmas.{plans_set_once}
use Rattle.plan_orders.proofs.laws.plans_set_once.Goals as goal

pub returns : goal.returns
returns c = plans_set_once
