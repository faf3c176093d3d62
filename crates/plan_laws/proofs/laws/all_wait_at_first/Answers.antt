use Rattle.edit_words.specs.Rows.{rows}
use Rattle.plan_laws.proofs.Setting.{planned_rows}
use Rattle.plan_laws.proofs.FirstLemmas.{first_invariant}
use Rattle.plan_laws.proofs.laws.all_wait_at_first.Goals as goal

pub returns : goal.returns
returns c = λ t now changes made p tree is. first_invariant t (rows changes) (planned_rows t changes p) made now tree is
