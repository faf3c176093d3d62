use Rattle.commit_states.specs.Interrupted.{IsOfKind}
use Rattle.commit_states.proofs.LawLemmas.{groups_halt, seals_halt}
use Rattle.commit_states.proofs.MarkerLemmas.{no_seal, no_other}
use Rattle.commit_states.proofs.TextLemmas.{of_kind}
use Rattle.commit_states.proofs.laws.failed_calls_tell_markers.Goals as goal

pub returns-clause-groups : goal.returns-clause-groups
returns-clause-groups c = groups_halt

pub returns-clause-seal : goal.returns-clause-seal
returns-clause-seal c = seals_halt

pub returns-clause-no_seal : goal.returns-clause-no_seal
returns-clause-no_seal c = λ kind steps. no_seal (IsOfKind kind steps) steps (of_kind kind steps)

pub returns-clause-one_marker : goal.returns-clause-one_marker
returns-clause-one_marker c = λ kind steps. no_other (IsOfKind kind steps) steps (of_kind kind steps)
