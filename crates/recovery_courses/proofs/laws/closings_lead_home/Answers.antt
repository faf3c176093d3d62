use Rattle.recovery_courses.proofs.CloseLemmas.{seals_lead_forward, undone_lead_back}
use Rattle.recovery_courses.proofs.laws.closings_lead_home.Goals as goal

pub returns-clause-sealed : goal.returns-clause-sealed
returns-clause-sealed c = seals_lead_forward

pub returns-clause-undone : goal.returns-clause-undone
returns-clause-undone c = undone_lead_back
