use Rattle.edit_words.specs.Rows.{rows}
use Rattle.plan_laws.proofs.Setting.{planned_rows}
use Rattle.plan_ends.proofs.FirstSteps.{first_steps_lead}
use Rattle.plan_ends.proofs.Starts.{starts_well}
use Rattle.plan_ends.proofs.laws.first_steps_lead.Goals as goal

pub returns : goal.returns
returns c = λ t changes made dirs p names m are. first_steps_lead t (rows changes) (planned_rows t changes p) names made dirs are (starts_well t changes p made m)
