use Rattle.listing_laws.proofs.ReadLemmas.{resolved-name}
use Rattle.listing_laws.proofs.reading_laws.names_resolve.Goals as goal

pub returns : goal.returns
returns c = resolved-name
