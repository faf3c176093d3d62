use Rattle.plan_ends.proofs.Starts.{starts_well}
use Rattle.plan_ends.proofs.laws.each_starts_well.Goals as goal

pub returns : goal.returns
returns c = λ t changes made p m. starts_well t changes p made m
