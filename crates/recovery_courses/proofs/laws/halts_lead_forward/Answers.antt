use Rattle.recovery_courses.proofs.HomeLemmas.{halts_lead_forward}
use Rattle.recovery_courses.proofs.laws.halts_lead_forward.Goals as goal

pub returns : goal.returns
returns c = halts_lead_forward
