use Rattle.commit_states.specs.Interrupted.{IsOfKind}
use Rattle.commit_states.proofs.TextLemmas.{of_kind}
use Rattle.commit_states.proofs.LawLemmas.{halts_go_back}
use Rattle.commit_states.proofs.laws.halts_go_back.Goals as goal

pub returns : goal.returns
returns c = λ kind steps. halts_go_back (IsOfKind kind steps) steps (of_kind kind steps)
