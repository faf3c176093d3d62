use Rattle.recovery_courses.proofs.CloseLemmas.{unplanned_lead_back, unstaged_lead_back}
use Rattle.recovery_courses.proofs.laws.clearings_lead_home.Goals as goal

pub returns-clause-names : goal.returns-clause-names
returns-clause-names c = unplanned_lead_back

pub returns-clause-absent : goal.returns-clause-absent
returns-clause-absent c = unstaged_lead_back
