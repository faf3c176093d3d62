use Rattle.listed_lines.proofs.ListedLemmas.{listings_agree}
use Rattle.listed_lines.proofs.one_list.listings_agree.Goals as goal

pub returns : goal.returns
returns c = listings_agree
