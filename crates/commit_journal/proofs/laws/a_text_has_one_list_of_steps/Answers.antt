use Rattle.commit_journal.proofs.LawLemmas.{one_list, one_version}
use Rattle.commit_journal.proofs.laws.a_text_has_one_list_of_steps.Goals as goal

pub returns-clause-steps : goal.returns-clause-steps
returns-clause-steps c = one_list

pub returns-clause-version : goal.returns-clause-version
returns-clause-version c = one_version
