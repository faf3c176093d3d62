use Rattle.staging_names.proofs.OrderLemmas.{in_order, not_foreign, counted, not_beyond}
use Rattle.staging_names.proofs.laws.what_is_in_order_is_not_foreign.Goals as goal

pub returns-clause-order : goal.returns-clause-order
returns-clause-order c = λ fs. (in_order fs, not_foreign fs)

pub returns-clause-beyond : goal.returns-clause-beyond
returns-clause-beyond c = λ fs steps. (counted fs steps, not_beyond fs steps)
