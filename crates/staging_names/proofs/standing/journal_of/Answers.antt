use Rattle.std.proofs.Common.{◌≡◌, None, sym, ◌∙◌, ap, rules}
use Rattle.staging_names.specs.Tests.{is_journal, journal_at, journal_of}
use Rattle.staging_names.proofs.OrderLemmas.{nowhere_journal}
use Rattle.staging_names.proofs.PlaceLemmas.{placed}
use Rattle.staging_names.proofs.standing.journal_of.Goals as goal

pub returns-in_err-place : goal.returns-in_err-place
returns-in_err-place c =
    let none : journal_of c.args.found.now ≡ None = nowhere_journal c.args.found.now (sym c.in_err-place.ensures.place) in
    rw none (search rules)

pub returns : goal.returns
returns c = c.journal_in.ensures ∙ sym (ap journal_at (placed is_journal c.args.found.now _ c.in_ok-place.place (sym c.in_ok-place.ensures.place)))
