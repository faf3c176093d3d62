use Rattle.std.proofs.Common.{◌≡◌, ◌<◌, None, refl, arith, length, take, length-take}
use Rattle.listing_text.specs.Dates.{minute_of}
use Rattle.listing_text.specs.Fields.{date_in}
use Rattle.listing_text.proofs.DateLemmas.{minute_of-short}
use Rattle.listing_text.proofs.fields.date_in.Goals as goal

pub returns-in_err-date : goal.returns-in_err-date
unfolding date_in
returns-in_err-date c =
    let short : length c.args.text.now < 16 = c.in_err-date.ensures.cases in
    let none : minute_of (take 16 c.args.text.now) ≡ None = minute_of-short (take 16 c.args.text.now) (omega (arith, length-take 16 c.args.text.now)) in
    rw (c.from_residual.ensures, none) refl
