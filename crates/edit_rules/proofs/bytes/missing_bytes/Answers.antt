use Rattle.std.proofs.Common.{rules, ◌≡◌, true, cond, [], not, is_some, filter, length, map, option_map, take, ◌∙◌, ap, sym}
use Rattle.dired_text.specs.Paths.{Names, path_bytes}
use Rattle.path_map.specs.Walks.{firsts, value_at}
use Rattle.edit_words.specs.Found.{sight_in}
use Rattle.edit_words.specs.Place.{ancestors}
use Rattle.edit_words.specs.Refusals.{total}
use Rattle.edit_words.specs.Rows.{is_elsewhere, written}
use Rattle.edit_rules.specs.Standing.{bytes_missing}
use Rattle.edit_rules.proofs.StandingLemmas.{bytes_rule}
use Rattle.edit_rules.proofs.bytes.missing_bytes.Goals as goal

pub returns-clause-bytes : goal.returns-clause-bytes
returns-clause-bytes c =
    let row = c.args.row.now in
    let path = c.in_ok-path.path in
    let standing = c.args.standing.now in
    let sight = sight_in c.args.findings.now in
    let far : is_elsewhere row ≡ true = search rules in
    let path_is : path ≡ written row = search rules in
    let found : map (option_map (λ f. f.now)) c.in_ok-above.above.items ≡ map (value_at standing) (take (length path) (firsts path)) = search rules in
    let got : c.bytes_above.result ≡ bytes_missing path (map (option_map (λ f. f.now)) c.in_ok-above.above.items) = search rules in
    got
    ∙ bytes_rule standing c.args.findings.now c.requires path _ found
    ∙ ap (λ (q : Names). total path_bytes (filter (λ (p : Names). not (is_some (sight.at p))) (ancestors q))) path_is
    ∙ sym (ap (λ b. total path_bytes (cond b (filter (λ (p : Names). not (is_some (sight.at p))) (ancestors (written row))) [])) far)
