use Rattle.listing_laws.proofs.PrintedLemmas.{printed_read}
use Rattle.listing_laws.proofs.printed.printed_listings_are_read.Goals as goal

pub returns : goal.returns
returns c = printed_read
