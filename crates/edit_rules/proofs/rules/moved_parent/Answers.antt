use Rattle.std.proofs.Common.{rules, ◌≡◌, None, length, map, option_map, take, ◌∙◌, ap}
use Rattle.path_map.specs.Walks.{firsts, value_at}
use Rattle.edit_words.specs.declared.fault.CheckFault.TheVariants as faults
use Rattle.edit_rules.specs.Claims.{first_line, least_line}
use Rattle.edit_rules.proofs.StandingLemmas.{least_above}
use Rattle.edit_rules.proofs.rules.moved_parent.Goals as goal

pub returns : goal.returns
returns c =
    let path = c.args.path.now in
    let movers = c.args.table.now.movers.claims in
    let items = c.in_ok-movers.movers.items in
    let found : map (option_map (λ k. k.now)) items ≡ map (value_at movers) (take (length path) (firsts path)) = search rules in
    let least : c.least-other.result ≡ least_line (λ o. first_line (option_map (λ k. k.now) o)) None items = search rules in
    let shown : c.map.result ≡ option_map (faults.MovedParent c.args.row.now.line) c.least-other.result = search rules in
    shown ∙ ap (option_map (faults.MovedParent c.args.row.now.line)) (least ∙ least_above (option_map (λ k. k.now)) items movers path found)
