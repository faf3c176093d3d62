use Rattle.std.proofs.Common.{sym}
use Rattle.listing_text.proofs.NumberLemmas.{decimal-utf8}
use Rattle.listing_text.proofs.numbers.read_number.Goals as goal

pub returns-in-Err : goal.returns-in-Err
returns-in-Err c = absurd (c.in-Err.ensures.cases.0 (decimal-utf8 c.args.text.now (sym c.if-not-is_decimal.ensures)))
