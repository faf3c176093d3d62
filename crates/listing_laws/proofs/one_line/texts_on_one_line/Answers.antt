use Rattle.listing_laws.proofs.OneLineLemmas.{escaped-one_line, header-one_line, total-one_line, line-one_line}
use Rattle.listing_laws.proofs.one_line.texts_on_one_line.Goals as goal

pub returns-clause-escaped : goal.returns-clause-escaped
returns-clause-escaped c = escaped-one_line

pub returns-clause-header : goal.returns-clause-header
returns-clause-header c = header-one_line

pub returns-clause-total : goal.returns-clause-total
returns-clause-total c = total-one_line

pub returns-clause-line : goal.returns-clause-line
returns-clause-line c = line-one_line
