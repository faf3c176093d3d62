use Rattle.std.proofs.Common.{rules, ◌≡◌, ◌≤◌, List, true, cond, [], not, is_some, filter, length, map, option_map, take, subst, ◌∙◌, ap, sym}
use Rattle.std.proofs.lemmas.List.{length-map}
use Rattle.dired_text.specs.Paths.{Names, path_bytes}
use Rattle.path_map.specs.Walks.{firsts, value_at}
use Rattle.edit_words.specs.Found.{sight_in}
use Rattle.edit_words.specs.Place.{ancestors}
use Rattle.edit_words.specs.Rows.{is_elsewhere, written}
use Rattle.edit_rules.specs.Standing.{paths_missing}
use Rattle.edit_rules.proofs.BytesLemmas.{few_above}
use Rattle.edit_rules.proofs.StandingLemmas.{as_many, paths_rule}
use Rattle.edit_rules.proofs.bytes.missing_above.Goals as goal

pub where_missing-requires : goal.where_missing-requires
where_missing-requires c =
    let path = c.in_ok-path.path in
    let standing = c.args.standing.now in
    let items = c.in_ok-above.above.items in
    let found : map (option_map (λ f. f.now)) items ≡ map (value_at standing) (take (length path) (firsts path)) = search rules in
    let same : c.deref.result.now ≡ items = search rules in
    ap length same ∙ sym (length-map items (option_map (λ f. f.now))) ∙ as_many standing path _ found

pub returns : goal.returns
returns c =
    let row = c.args.row.now in
    let path = c.in_ok-path.path in
    let standing = c.args.standing.now in
    let sight = sight_in c.args.findings.now in
    let test = λ (p : Names). not (is_some (sight.at p)) in
    let far : is_elsewhere row ≡ true = search rules in
    let path_is : path ≡ written row = search rules in
    let found : map (option_map (λ f. f.now)) c.in_ok-above.above.items ≡ map (value_at standing) (take (length path) (firsts path)) = search rules in
    let got : c.in_ok-missing.missing.items ≡ paths_missing [] path (map (option_map (λ f. f.now)) c.in_ok-above.above.items) = search rules in
    let short : path_bytes (written row) ≤ 4095 = search rules in
    let all = got ∙ paths_rule standing c.args.findings.now c.requires path _ found ∙ ap (λ (q : Names). filter test (ancestors q)) path_is in
    record {
      missing = all ∙ sym (ap (λ b. cond b (filter test (ancestors (written row))) []) far);
      few = subst (λ (l : List Names). length l ≤ 4096) (sym all) (few_above test (written row) short);
    }
