use Rattle.commit_states.specs.Interrupted.{IsOfKind}
use Rattle.commit_states.proofs.TextLemmas.{of_kind}
use Rattle.commit_states.proofs.RecoverLemmas.{recover_from}
use Rattle.commit_states.proofs.laws.interrupted_trees_recover.Goals as goal

pub returns : goal.returns
returns c = λ kind steps old new fresh began now way tree absent few moments sound r. recover_from (IsOfKind kind steps) steps (of_kind kind steps) old new fresh began now tree absent few moments sound way r
