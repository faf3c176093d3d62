use Rattle.commit_states.specs.Interrupted.{IsOfKind}
use Rattle.commit_states.proofs.TextLemmas.{of_kind}
use Rattle.commit_states.proofs.LawLemmas.{go_forward}
use Rattle.commit_states.proofs.laws.halts_go_forward.Goals as goal

pub returns : goal.returns
returns c = λ kind steps. go_forward (IsOfKind kind steps) steps (of_kind kind steps)
