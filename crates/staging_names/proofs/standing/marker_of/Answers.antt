use Rattle.std.proofs.Common.{◌≡◌, None, sym, ◌∙◌, ap, rules}
use Rattle.staging_names.specs.Tests.{is_marker, marker_at, marker_of}
use Rattle.staging_names.proofs.OrderLemmas.{nowhere_marker}
use Rattle.staging_names.proofs.PlaceLemmas.{placed}
use Rattle.staging_names.proofs.standing.marker_of.Goals as goal

pub returns-in_err-place : goal.returns-in_err-place
returns-in_err-place c =
    let none : marker_of c.args.found.now ≡ None = nowhere_marker c.args.found.now (sym c.in_err-place.ensures.place) in
    rw none (search rules)

pub returns : goal.returns
returns c = c.marker_in.ensures ∙ sym (ap marker_at (placed is_marker c.args.found.now _ c.in_ok-place.place (sym c.in_ok-place.ensures.place)))
