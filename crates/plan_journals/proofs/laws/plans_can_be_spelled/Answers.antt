use Rattle.plan_journals.proofs.Spelled.{spelled}
use Rattle.plan_journals.proofs.laws.plans_can_be_spelled.Goals as goal

pub returns : goal.returns
returns c = λ checked steps is plan. spelled checked steps is plan
