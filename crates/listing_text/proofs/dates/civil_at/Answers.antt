use Rattle.std.proofs.Common.{◌≡◌, arith, ℤ, pos, ◌*ℤ◌, IsOk, to_z, of_z, w64}
use Rattle.jiff_core.specs.declared.timestamp.Timestamp.{Timestamp}
use Rattle.jiff_core.specs.declared.error.Error.{Error}
use Rattle.jiff_core.proofs.SignedLemmas.{signed_arith}
use Rattle.listing_text.proofs.DateLemmas.{kept}
use Rattle.listing_text.proofs.dates.civil_at.Goals as goal

pub returns : goal.returns
returns c =
    let second : ℤ = to_z w64 (of_z w64 (to_z w64 (of_z w64 c.args.minute) *ℤ pos 60)) in
    let same : second ≡ c.args.minute *ℤ pos 60 = omega (arith, signed_arith, c.requires.first, c.requires.last) in
    let ok : IsOk c.from_second.result = c.from_second.ensures.succeeds.1 (omega (arith, signed_arith, same, c.requires.first, c.requires.last), omega (arith, signed_arith, same, c.requires.first, c.requires.last)) in
    let nanos : c.unwrap_or-instant.result.nanosecond ≡ second *ℤ pos 1_000_000_000 =
    kept Timestamp Error (λ (t : Timestamp). t.nanosecond ≡ second *ℤ pos 1_000_000_000) c.from_second.result _ c.unwrap_or-instant.result ok c.from_second.ensures.value c.unwrap_or-instant.ensures in
    omega (arith, signed_arith, c.to_datetime.ensures, nanos, same)
