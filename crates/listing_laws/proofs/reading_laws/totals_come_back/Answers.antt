use Rattle.listing_laws.proofs.ReadLemmas.{total-read}
use Rattle.listing_laws.proofs.reading_laws.totals_come_back.Goals as goal

pub returns : goal.returns
returns c = total-read
