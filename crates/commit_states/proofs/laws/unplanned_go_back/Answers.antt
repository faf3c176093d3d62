use Rattle.commit_states.specs.Interrupted.{IsOfKind}
use Rattle.commit_states.proofs.LawLemmas.{unplanned_back, unstaged_back}
use Rattle.commit_states.proofs.laws.unplanned_go_back.Goals as goal

pub returns-clause-names : goal.returns-clause-names
returns-clause-names c = λ kind steps. unplanned_back (IsOfKind kind steps) steps

pub returns-clause-absent : goal.returns-clause-absent
returns-clause-absent c = λ kind steps. unstaged_back (IsOfKind kind steps) steps
