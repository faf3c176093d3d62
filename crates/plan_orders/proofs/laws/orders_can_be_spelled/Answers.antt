use Rattle.plan_orders.proofs.SpellLemmas.{orders_can_be_spelled}
use Rattle.plan_orders.proofs.laws.orders_can_be_spelled.Goals as goal

pub returns : goal.returns
returns c = orders_can_be_spelled
