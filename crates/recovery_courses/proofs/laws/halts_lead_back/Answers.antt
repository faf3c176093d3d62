use Rattle.recovery_courses.proofs.HomeLemmas.{halts_lead_back}
use Rattle.recovery_courses.proofs.laws.halts_lead_back.Goals as goal

pub returns : goal.returns
returns c = halts_lead_back
