use Rattle.step_layers.proofs.ExchangeLemmas.{orders_lead, orders_end_alike, orders_have_all}
use Rattle.step_layers.proofs.laws.orders_lead.Goals as goal

pub returns-clause-lead : goal.returns-clause-lead
returns-clause-lead c = orders_lead

pub returns-clause-alike : goal.returns-clause-alike
returns-clause-alike c = orders_end_alike

pub returns-clause-all : goal.returns-clause-all
returns-clause-all c = orders_have_all
