use Rattle.plan_ends.proofs.Parts.{moves_on}
use Rattle.plan_ends.proofs.laws.moves_run.Goals as goal

pub returns : goal.returns
returns c = λ t now changes made n spots ws moves p names long inv holds m. moves_on t changes p names made long n spots ws moves now inv holds m
