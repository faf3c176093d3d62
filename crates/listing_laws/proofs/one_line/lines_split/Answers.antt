use Rattle.listing_laws.proofs.OneLineLemmas.{lines-split}
use Rattle.listing_laws.proofs.one_line.lines_split.Goals as goal

pub returns : goal.returns
returns c = lines-split
