use Rattle.edit_words.specs.Rows.{rows}
use Rattle.plan_laws.proofs.Setting.{planned_rows}
use Rattle.plan_laws.proofs.WellLemmas.{well_at_first, well_carried, well_put}
use Rattle.plan_laws.proofs.laws.moves_keep_waiting_well.Goals as goal

pub returns-clause-first : goal.returns-clause-first
returns-clause-first c = λ t changes p. well_at_first t (rows changes) (planned_rows t changes p)

pub returns-clause-carried : goal.returns-clause-carried
returns-clause-carried c = λ t changes n spots ws w p well has ready. well_carried t (rows changes) (planned_rows t changes p) n spots ws well w has ready

pub returns-clause-put_aside : goal.returns-clause-put_aside
returns-clause-put_aside c = λ t changes n spots ws d p well no_one is. well_put t (rows changes) (planned_rows t changes p) n spots ws well d no_one is
