use Rattle.std.proofs.Common.{◌≡◌, ◌∙◌, ap, rules, unsigned_abs, FitsSigned, w16, to_z-of_z}
use Rattle.listing_text.specs.Dates.{stamp}
use Rattle.listing_text.proofs.DateLemmas.{stamp-civil}
use Rattle.listing_text.proofs.dates.shown_moment.Goals as goal

pub returns-clause-text : goal.returns-clause-text
returns-clause-text c =
    let dt = c.to_plain-civil.result in
    let fits : FitsSigned w16 dt.date.year = search rules in
    let year : c.unsigned_abs.result ≡ unsigned_abs dt.date.year = c.unsigned_abs.ensures.value ∙ ap unsigned_abs (to_z-of_z fits) in
    ap (λ y. stamp y dt.date.month dt.date.day dt.time.hour dt.time.minute) year ∙ stamp-civil dt c.args.minute (search rules)
