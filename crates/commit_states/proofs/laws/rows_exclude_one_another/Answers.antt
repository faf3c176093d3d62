use Rattle.commit_states.specs.Interrupted.{IsOfKind}
use Rattle.commit_states.proofs.TextLemmas.{of_kind}
use Rattle.commit_states.proofs.PhaseLemmas.{one_phase, one_journal}
use Rattle.commit_states.proofs.laws.rows_exclude_one_another.Goals as goal

pub returns-clause-rows : goal.returns-clause-rows
returns-clause-rows c = λ t tree kind other_kind steps also. one_phase t tree (IsOfKind kind steps) (IsOfKind other_kind also) steps also (of_kind kind steps) (of_kind other_kind also)

pub returns-clause-steps : goal.returns-clause-steps
returns-clause-steps c = λ t tree kind other_kind steps also. one_journal t tree (IsOfKind kind steps) (IsOfKind other_kind also) steps also (of_kind kind steps) (of_kind other_kind also)
