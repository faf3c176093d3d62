use Rattle.edit_words.proofs.FirstLemmas.{fault_of_first, fault_of_least, line_of_least, no_line}
use Rattle.edit_words.proofs.laws.the_first_line_is_the_least.Goals as goal

pub returns-clause-first : goal.returns-clause-first
returns-clause-first c = fault_of_first

pub returns-clause-least : goal.returns-clause-least
returns-clause-least c = fault_of_least

pub returns-clause-line : goal.returns-clause-line
returns-clause-line c = line_of_least

pub returns-clause-none : goal.returns-clause-none
returns-clause-none c = no_line
