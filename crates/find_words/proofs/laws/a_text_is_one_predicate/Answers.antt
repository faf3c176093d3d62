use Rattle.find_words.proofs.OneLemmas.{no_fault, one_fault, reads_one}
use Rattle.find_words.proofs.laws.a_text_is_one_predicate.Goals as goal

pub returns-clause-one : goal.returns-clause-one
returns-clause-one c = reads_one

pub returns-clause-place : goal.returns-clause-place
returns-clause-place c = one_fault

pub returns-clause-either : goal.returns-clause-either
returns-clause-either c = no_fault
