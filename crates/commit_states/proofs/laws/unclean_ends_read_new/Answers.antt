use Rattle.commit_states.proofs.LawLemmas.{uncleans_read, seals_read}
use Rattle.commit_states.proofs.laws.unclean_ends_read_new.Goals as goal

pub returns-clause-cleaning : goal.returns-clause-cleaning
returns-clause-cleaning c = uncleans_read

pub returns-clause-seal : goal.returns-clause-seal
returns-clause-seal c = seals_read
