use Rattle.edit_words.specs.Rows.{rows}
use Rattle.plan_laws.proofs.Setting.{planned_rows}
use Rattle.plan_laws.proofs.MovesLead.{moves_lead}
use Rattle.plan_laws.proofs.laws.moves_lead_on.Goals as goal

pub returns : goal.returns
returns c = λ t now changes made n spots ws steps p names long inv moves. moves_lead t (rows changes) (planned_rows t changes p) names made long n spots ws now steps inv moves
