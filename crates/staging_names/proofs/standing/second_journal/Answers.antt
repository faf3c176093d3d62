use Rattle.std.proofs.Common.{◌≡◌, None, ◌+◌, sym, ap, ◌∙◌, position, rules}
use Rattle.staging_names.specs.Tests.{is_journal, second_position}
use Rattle.staging_names.proofs.PlaceLemmas.{no_first_place, no_second_place, second_place, whole_rest}
use Rattle.staging_names.proofs.standing.second_journal.Goals as goal

pub returns-in_err-first : goal.returns-in_err-first
returns-in_err-first c =
    let none : second_position is_journal c.args.found.now ≡ None = no_first_place is_journal c.args.found.now (sym c.in_err-first.ensures.place) in
    rw none (search rules)

pub returns-in_err-second : goal.returns-in_err-second
returns-in_err-second c =
    let none : second_position is_journal c.args.found.now ≡ None = no_second_place is_journal c.args.found.now c.in_ok-first.first (sym c.in_ok-first.ensures.place) (ap (position is_journal) (sym (whole_rest c.args.found.now (c.in_ok-first.first + 1))) ∙ sym c.in_err-second.ensures.place) in
    rw none (search rules)

pub returns : goal.returns
returns c = sym (second_place is_journal c.args.found.now c.in_ok-first.first c.in_ok-second.second (sym c.in_ok-first.ensures.place) (ap (position is_journal) (sym (whole_rest c.args.found.now (c.in_ok-first.first + 1))) ∙ sym c.in_ok-second.ensures.place))
