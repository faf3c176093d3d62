use Rattle.recovery_courses.proofs.HomeLemmas.{turned_lead_back}
use Rattle.recovery_courses.proofs.laws.turned_lead_back.Goals as goal

pub returns : goal.returns
returns c = turned_lead_back
