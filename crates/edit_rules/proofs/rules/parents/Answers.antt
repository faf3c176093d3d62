use Rattle.std.proofs.Common.{rules, ◌≡◌, [], Option, Some, None, true, filter, length, map, not, is_some, option_map, take, ◌∙◌, ap, sym}
use Rattle.std.specs.List.{find}
use Rattle.std.proofs.lemmas.List.{length-map}
use Rattle.dired_text.specs.Paths.{Names}
use Rattle.path_map.specs.Walks.{firsts, value_at}
use Rattle.edit_words.specs.declared.fault.CheckFault.TheVariants.{ParentNotDirectory, MovedParent, ParentTaken}
use Rattle.edit_rules.specs.Claims.{first_line, least_line}
use Rattle.edit_words.specs.Found.{sight_in}
use Rattle.edit_words.specs.Place.{ancestors}
use Rattle.edit_words.specs.Refusals as fault
use Rattle.edit_words.specs.Rows.{is_elsewhere, written}
use Rattle.edit_words.specs.Sight.{is_other}
use Rattle.edit_rules.specs.Standing.{least_missing, other_in}
use Rattle.edit_rules.proofs.RuleLemmas.{elsewhere_rule, first_of_three, second_of_three, third_of_three}
use Rattle.edit_rules.proofs.StandingLemmas.{as_many, least_rule, other_rule}
use Rattle.edit_rules.proofs.rules.parents.Goals as goal

pub no_directory-requires : goal.no_directory-requires
no_directory-requires c =
    let path = c.args.path.now in
    let standing = c.args.standing.now in
    let items = c.in_ok-above.above.items in
    let found : map (option_map (λ f. f.now)) items ≡ map (value_at standing) (take (length path) (firsts path)) = search rules in
    let same : c.deref.result.now ≡ items = search rules in
    ap length same ∙ sym (length-map items (option_map (λ f. f.now))) ∙ as_many standing path _ found

pub returns-in-Some : goal.returns-in-Some
returns-in-Some c =
    let row = c.args.row.now in
    let path = c.args.path.now in
    let table = c.args.table.now in
    let sight = sight_in c.args.findings.now in
    let standing = c.args.standing.now in
    let xs = map (option_map (λ f. f.now)) c.in_ok-above.above.items in
    let far : is_elsewhere row ≡ true = search rules in
    let found : xs ≡ map (value_at standing) (take (length path) (firsts path)) = search rules in
    let other : other_in [] path xs ≡ find (λ p. is_other (sight.at p)) (ancestors (written row)) = other_rule standing c.args.findings.now c.requires.standing path xs found ∙ ap (λ (q : Names). find (λ p. is_other (sight.at p)) (ancestors q)) c.requires.path in
    let got : Some c.in-Some.fault ≡ option_map (ParentNotDirectory row.line) (other_in [] path xs) = search rules in
    first_of_three _ _
    (option_map (MovedParent row.line) (least_line (λ p. first_line (value_at table.movers.claims p)) None (ancestors (written row))))
    (option_map (ParentTaken row.line) (least_line (λ p. first_line (value_at table.writers.claims p)) None (filter (λ p. not (is_some (sight.at p))) (ancestors (written row)))))
    c.in-Some.fault (elsewhere_rule sight table row c.requires.table c.requires.lines far) (sym (got ∙ ap (option_map (ParentNotDirectory row.line)) other))

pub returns-in-Some-2 : goal.returns-in-Some-2
returns-in-Some-2 c =
    let row = c.args.row.now in
    let path = c.args.path.now in
    let table = c.args.table.now in
    let sight = sight_in c.args.findings.now in
    let standing = c.args.standing.now in
    let xs = map (option_map (λ f. f.now)) c.in_ok-above.above.items in
    let far : is_elsewhere row ≡ true = search rules in
    let found : xs ≡ map (value_at standing) (take (length path) (firsts path)) = search rules in
    let other : other_in [] path xs ≡ find (λ p. is_other (sight.at p)) (ancestors (written row)) = other_rule standing c.args.findings.now c.requires.standing path xs found ∙ ap (λ (q : Names). find (λ p. is_other (sight.at p)) (ancestors q)) c.requires.path in
    let got : None ≡ option_map (ParentNotDirectory row.line) (other_in [] path xs) = search rules in
    let none : option_map (ParentNotDirectory row.line) (find (λ p. is_other (sight.at p)) (ancestors (written row))) ≡ None = sym (got ∙ ap (option_map (ParentNotDirectory row.line)) other) in
    let here : Some c.in-Some-2.fault ≡ option_map (MovedParent row.line) (least_line (λ p. first_line (value_at table.movers.claims p)) None (ancestors path)) = search rules in
    let moved : option_map (MovedParent row.line) (least_line (λ p. first_line (value_at table.movers.claims p)) None (ancestors (written row))) ≡ Some c.in-Some-2.fault =
    sym (here ∙ ap (λ (q : Names). option_map (MovedParent row.line) (least_line (λ p. first_line (value_at table.movers.claims p)) None (ancestors q))) c.requires.path) in
    second_of_three _ _ _ _ c.in-Some-2.fault (elsewhere_rule sight table row c.requires.table c.requires.lines far) none moved

pub returns : goal.returns
returns c =
    let row = c.args.row.now in
    let path = c.args.path.now in
    let table = c.args.table.now in
    let sight = sight_in c.args.findings.now in
    let standing = c.args.standing.now in
    let xs = map (option_map (λ f. f.now)) c.in_ok-above.above.items in
    let far : is_elsewhere row ≡ true = search rules in
    let found : xs ≡ map (value_at standing) (take (length path) (firsts path)) = search rules in
    let other : other_in [] path xs ≡ find (λ p. is_other (sight.at p)) (ancestors (written row)) = other_rule standing c.args.findings.now c.requires.standing path xs found ∙ ap (λ (q : Names). find (λ p. is_other (sight.at p)) (ancestors q)) c.requires.path in
    let got : None ≡ option_map (ParentNotDirectory row.line) (other_in [] path xs) = search rules in
    let none : option_map (ParentNotDirectory row.line) (find (λ p. is_other (sight.at p)) (ancestors (written row))) ≡ None = sym (got ∙ ap (option_map (ParentNotDirectory row.line)) other) in
    let here : None ≡ option_map (MovedParent row.line) (least_line (λ p. first_line (value_at table.movers.claims p)) None (ancestors path)) = search rules in
    let moved : option_map (MovedParent row.line) (least_line (λ p. first_line (value_at table.movers.claims p)) None (ancestors (written row))) ≡ None =
    sym (here ∙ ap (λ (q : Names). option_map (MovedParent row.line) (least_line (λ p. first_line (value_at table.movers.claims p)) None (ancestors q))) c.requires.path) in
    let shown : c.in_ok-taken.taken ≡ option_map (ParentTaken row.line) (least_missing None (map (value_at table.writers.claims) (ancestors path)) xs) = search rules in
    let taken : c.in_ok-taken.taken ≡ option_map (ParentTaken row.line) (least_line (λ p. first_line (value_at table.writers.claims p)) None (filter (λ p. not (is_some (sight.at p))) (ancestors (written row)))) =
    shown
    ∙ ap (option_map (ParentTaken row.line)) (least_rule standing c.args.findings.now c.requires.standing (value_at table.writers.claims) path xs found
    ∙ ap (λ (q : Names). least_line (λ p. first_line (value_at table.writers.claims p)) None (filter (λ p. not (is_some (sight.at p))) (ancestors q))) c.requires.path) in
    taken ∙ third_of_three _ _ _ _ (elsewhere_rule sight table row c.requires.table c.requires.lines far) none moved
