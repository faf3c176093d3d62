use Rattle.listed_lines.proofs.ListedLemmas.{listing_is_one, listed_is_listing}
use Rattle.listed_lines.proofs.one_list.listing_is_one.Goals as goal

pub returns-clause-one : goal.returns-clause-one
returns-clause-one c = listing_is_one

pub returns-clause-itself : goal.returns-clause-itself
returns-clause-itself c = listed_is_listing
