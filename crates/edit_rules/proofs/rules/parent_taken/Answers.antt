use Rattle.std.proofs.Common.{rules, ◌≡◌, None, length, map, option_map, take, ◌∙◌, ap}
use Rattle.path_map.specs.Walks.{firsts, value_at}
use Rattle.edit_words.specs.declared.fault.CheckFault.TheVariants as faults
use Rattle.edit_rules.specs.Standing.{least_missing}
use Rattle.edit_rules.proofs.StandingLemmas.{firsts_above}
use Rattle.edit_rules.proofs.rules.parent_taken.Goals as goal

pub returns : goal.returns
returns c =
    let path = c.args.path.now in
    let writers = c.args.table.now.writers.claims in
    let items = c.in_ok-writers.writers.items in
    let above = map (option_map (λ f. f.now)) c.args.above.now in
    let found : map (option_map (λ k. k.now)) items ≡ map (value_at writers) (take (length path) (firsts path)) = search rules in
    let least : c.first_missing-other.result ≡ least_missing None (map (option_map (λ k. k.now)) items) above = search rules in
    let shown : c.map.result ≡ option_map (faults.ParentTaken c.args.row.now.line) c.first_missing-other.result = search rules in
    shown ∙ ap (option_map (faults.ParentTaken c.args.row.now.line)) (least ∙ ap (λ l. least_missing None l above) (found ∙ ap (map (value_at writers)) (firsts_above path)))
