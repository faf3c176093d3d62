use Rattle.std.proofs.Common.{[], refl}
use Rattle.edit_words.specs.Rows.{rows}
use Rattle.edit_words.specs.Sight.{sight_of}
use Rattle.plan_moves.specs.Plan.{held_paths}
use Rattle.plan_laws.proofs.Setting.{planned_rows}
use Rattle.plan_laws.proofs.HoldsLead.{holds_lead}
use Rattle.plan_laws.proofs.laws.holds_lead_on.Goals as goal

pub returns : goal.returns
returns c = λ t now changes made p is. holds_lead t (rows changes) (planned_rows t changes p) made (held_paths (sight_of t) (rows changes)) [] 0 now refl refl is
