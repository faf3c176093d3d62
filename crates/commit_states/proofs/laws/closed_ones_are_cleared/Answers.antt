use Rattle.commit_states.specs.Interrupted.{IsOfKind}
use Rattle.commit_states.proofs.TextLemmas.{of_kind}
use Rattle.commit_states.proofs.LawLemmas.{seals_go_on, undone_go_on}
use Rattle.commit_states.proofs.laws.closed_ones_are_cleared.Goals as goal

pub returns-clause-sealed : goal.returns-clause-sealed
returns-clause-sealed c = λ kind steps. seals_go_on (IsOfKind kind steps) steps (of_kind kind steps)

pub returns-clause-undone : goal.returns-clause-undone
returns-clause-undone c = λ kind steps. undone_go_on (IsOfKind kind steps) steps (of_kind kind steps)
