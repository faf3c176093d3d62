use Rattle.plan_journals.proofs.Fits.{fits}
use Rattle.plan_journals.proofs.laws.plans_fit_a_journal.Goals as goal

pub returns : goal.returns
returns c = λ sight confirmed changes steps asked taken plan. fits sight confirmed changes steps asked taken plan
