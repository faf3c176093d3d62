use Rattle.plan_ends.proofs.Parts.{plan_is_led}
use Rattle.plan_ends.proofs.laws.plans_lead.Goals as goal

pub returns : goal.returns
returns c = λ t changes made steps p names m plan. plan_is_led t changes made p m names steps plan
