use Rattle.edit_words.proofs.WellFormedLemmas.{well_formed_alone}
use Rattle.edit_words.proofs.laws.well_formed_where_no_fault_is_found.Goals as goal

pub returns : goal.returns
returns c = well_formed_alone
