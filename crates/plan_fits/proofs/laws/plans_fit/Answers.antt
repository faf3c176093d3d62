use Rattle.plan_fits.proofs.FitLemmas.{plan_fits}
use Rattle.plan_fits.proofs.laws.plans_fit.Goals as goal

pub returns : goal.returns
returns c = λ t changes steps journal next planned names texts below plan few written. plan_fits t changes steps next planned names texts below plan journal few written
