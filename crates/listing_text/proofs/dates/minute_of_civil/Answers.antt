use Rattle.std.proofs.Common.{◌≡◌, ◌∙◌, ap, rules, pos, ◌-ℤ◌, IsOk, to_z-of_z, w64, FitsSigned}
use Rattle.std.specs.Int.{int_div_euclid}
use Rattle.jiff_core.specs.declared.timestamp.Timestamp.{Timestamp}
use Rattle.jiff_core.specs.declared.error.Error.{Error}
use Rattle.jiff.specs.Words.{civil_nanos}
use Rattle.listing_text.proofs.DateLemmas.{kept, minute-exact, civil-in-range}
use Rattle.listing_text.proofs.dates.minute_of_civil.Goals as goal

pub returns : goal.returns
returns c =
    let civil = c.args.civil in
    let ok : IsOk c.to_timestamp.result = c.to_timestamp.ensures.succeeds.1 (civil-in-range civil c.requires.first_year c.requires.last_year) in
    let nanos : c.unwrap_or-instant.result.nanosecond ≡ civil_nanos civil -ℤ pos 0 =
    kept Timestamp Error (λ (t : Timestamp). t.nanosecond ≡ civil_nanos civil -ℤ pos 0) c.to_timestamp.result _ c.unwrap_or-instant.result ok c.to_timestamp.ensures.value c.unwrap_or-instant.ensures in
    let second : FitsSigned w64 c.as_second.result = search rules in
    let minute : FitsSigned w64 c.div_euclid.result = search rules in
    to_z-of_z minute ∙ c.div_euclid.ensures ∙ ap (λ z. int_div_euclid z (pos 60)) (to_z-of_z second ∙ c.as_second.ensures)
    ∙ minute-exact civil c.unwrap_or-instant.result.nanosecond c.requires.seconds c.requires.fraction nanos
