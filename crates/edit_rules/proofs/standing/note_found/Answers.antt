use Rattle.std.proofs.Common.{rules, ◌≡◌, false, true, is_some, ◌∙◌}
use Rattle.path_map.specs.Walks.{value_at}
use Rattle.edit_rules.specs.Standing.{found_as}
use Rattle.edit_rules.proofs.StandingLemmas.{first_kept, first_noted, got_none, got_some}
use Rattle.edit_rules.proofs.standing.note_found.Goals as goal

pub returns-in_ok-set-clause-noted : goal.returns-in_ok-set-clause-noted
returns-in_ok-set-clause-noted c p =
    let none : is_some c.get.result ≡ false = search rules in
    let is : c.kind_of.result ≡ found_as c.args.seen.now = search rules in
    c.in_ok-set.ensures.set p
    ∙ first_noted (value_at c.args.standing.now) (λ q. found_as c.args.seen.now) c.args.path.now p c.kind_of.result (got_none (λ v. v.now) c.get.result _ none c.get.ensures) is

pub returns-else-is_none-clause-noted : goal.returns-else-is_none-clause-noted
returns-else-is_none-clause-noted c p =
    let some : is_some c.get.result ≡ true = search rules in
    first_kept (value_at c.args.standing.now) (λ q. found_as c.args.seen.now) c.args.path.now p (got_some (λ v. v.now) c.get.result _ some c.get.ensures)
