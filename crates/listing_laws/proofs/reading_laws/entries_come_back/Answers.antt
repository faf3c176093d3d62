use Rattle.listing_laws.proofs.ReadLemmas.{entry-read}
use Rattle.listing_laws.proofs.reading_laws.entries_come_back.Goals as goal

pub returns : goal.returns
returns c = entry-read
