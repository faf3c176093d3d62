use Rattle.plan_ends.proofs.Parts.{last_steps}
use Rattle.plan_ends.proofs.laws.modes_lead.Goals as goal

pub returns : goal.returns
returns c = λ t changes made now ms p m holds moved are. last_steps t changes made p m now ms holds moved are
