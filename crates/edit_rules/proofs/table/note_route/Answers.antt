use Rattle.std.proofs.Common.{rules, ◌≡◌, Option, Some, None, false, true, is_some, if◌then◌else◌, ap, sym, ◌∙◌}
use Rattle.std.specs.Option.{option_or}
use Rattle.dired_text.specs.Paths.{Names}
use Rattle.path_map.specs.Walks.{value_at}
use Rattle.edit_words.specs.Rows.{is_at, route_to}
use Rattle.edit_rules.proofs.StandingLemmas.{first_kept, first_noted, got_none, got_some}
use Rattle.edit_rules.proofs.table.note_route.Goals as goal

pub returns-in_ok-set-clause-noted : goal.returns-in_ok-set-clause-noted
returns-in_ok-set-clause-noted c p =
    let old = c.args.routes.now in
    let to = c.args.row.now.to in
    let none : is_some c.get.result ≡ false = search rules in
    let is : c.in_ok-route.field-0 ≡ route_to c.in-Some.source to = search rules in
    let source : c.args.row.now.source ≡ Some c.in-Some.source = search rules in
    c.in_ok-set.ensures.set p
    ∙ first_noted (value_at old) (λ q. route_to q to) c.in-Some.source p c.in_ok-route.field-0 (got_none (λ v. v.now) c.get.result _ none c.get.ensures) is
    ∙ ap (λ (s : Option Names). option_or (value_at old p) (if is_at p s then Some (route_to p to) else None)) (sym source)

pub returns-else-is_none-clause-noted : goal.returns-else-is_none-clause-noted
returns-else-is_none-clause-noted c p =
    let old = c.args.routes.now in
    let to = c.args.row.now.to in
    let some : is_some c.get.result ≡ true = search rules in
    let source : c.args.row.now.source ≡ Some c.in-Some.source = search rules in
    first_kept (value_at old) (λ q. route_to q to) c.in-Some.source p (got_some (λ v. v.now) c.get.result _ some c.get.ensures)
    ∙ ap (λ (s : Option Names). option_or (value_at old p) (if is_at p s then Some (route_to p to) else None)) (sym source)
