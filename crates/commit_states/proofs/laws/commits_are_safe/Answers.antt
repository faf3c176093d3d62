use Rattle.commit_states.proofs.ExampleLemmas.{one_directory_fits}
use Rattle.commit_states.proofs.LawLemmas.{commit_leads}
use Rattle.commit_states.proofs.laws.commits_are_safe.Goals as goal

pub returns-clause-safe : goal.returns-clause-safe
returns-clause-safe c = commit_leads

pub returns-clause-can_fit : goal.returns-clause-can_fit
returns-clause-can_fit c = λ old next tree absent free. one_directory_fits old tree absent free next
