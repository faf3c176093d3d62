use Rattle.listing_laws.proofs.ReadLemmas.{resolved-path}
use Rattle.listing_laws.proofs.reading_laws.paths_resolve.Goals as goal

pub returns : goal.returns
returns c = resolved-path
