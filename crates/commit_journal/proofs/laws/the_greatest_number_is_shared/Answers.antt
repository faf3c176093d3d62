use Rattle.commit_journal.specs.Sharing.{shared_bytes}
use Rattle.commit_journal.proofs.SharingLemmas.{shared_is, shared_one}
use Rattle.commit_journal.proofs.laws.the_greatest_number_is_shared.Goals as goal

pub returns-clause-greatest : goal.returns-clause-greatest
returns-clause-greatest c = shared_is

pub returns-clause-one : goal.returns-clause-one
returns-clause-one c = λ base text n h. shared_one base text n (shared_bytes base text) h (shared_is base text)
