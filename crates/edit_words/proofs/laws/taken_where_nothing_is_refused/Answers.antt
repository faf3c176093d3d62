use Rattle.edit_words.proofs.WellFormedLemmas.{taken_alone}
use Rattle.edit_words.proofs.laws.taken_where_nothing_is_refused.Goals as goal

pub returns : goal.returns
returns c = taken_alone
