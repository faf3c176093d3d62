use Rattle.listing_laws.proofs.ReadLemmas.{header-read}
use Rattle.listing_laws.proofs.reading_laws.headers_come_back.Goals as goal

pub returns : goal.returns
returns c = header-read
