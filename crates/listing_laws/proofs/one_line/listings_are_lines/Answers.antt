use Rattle.listing_laws.proofs.OneLineLemmas.{section-lines, listing-lines}
use Rattle.listing_laws.proofs.one_line.listings_are_lines.Goals as goal

pub returns-clause-section : goal.returns-clause-section
returns-clause-section c = section-lines

pub returns-clause-listing : goal.returns-clause-listing
returns-clause-listing c = listing-lines
