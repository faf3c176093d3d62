use Rattle.std.proofs.Common.{sym}
use Rattle.listing_text.proofs.MomentLemmas.{minute_of-text, minute_of-from}
use Rattle.listing_text.proofs.NameLemmas.{escaped-other}
use Rattle.listing_text.proofs.FieldReads.{date-from}
use Rattle.listing_text.proofs.laws.dates_come_back.Goals as goal

pub returns-clause-shown : goal.returns-clause-shown
returns-clause-shown c = let x = escaped-other in let y = date-from in minute_of-text c.args.minute

pub returns-clause-read : goal.returns-clause-read
returns-clause-read c = λ m e. let both = minute_of-from c.args.text.now m e in (sym both.0, both.1)
