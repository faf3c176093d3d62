use Rattle.commit_journal.proofs.GrammarLemmas.{journal_spells, journal_spelled}
use Rattle.commit_journal.proofs.laws.steps_have_one_text.Goals as goal

pub returns-clause-some : goal.returns-clause-some
returns-clause-some c = journal_spells

pub returns-clause-one : goal.returns-clause-one
returns-clause-one c = λ v s bytes h. (journal_spelled v s bytes h).1
