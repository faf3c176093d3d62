use Rattle.std.proofs.Common.{◌≡◌, ◌<◌, ◌==◌, ◌∙◌, sym, length, rules, tests}
use Rattle.std.specs.List.{position}
use Rattle.std.proofs.lemmas.Iterator.{YieldsList-from_slice}
use Rattle.std.proofs.lemmas.Iterator.Search.{position_from_yields_List}
use Rattle.script_words.proofs.LineLemmas.{split_found, split_last}
use Rattle.script_words.proofs.splitting.split_line.Goals as goal

pub returns-in-Some : goal.returns-in-Some
returns-in-Some c =
    let text = c.args.text.now in
    let found : c.position.result ≡ position (λ b. b == 10) text =
    position_from_yields_List (λ b. b == 10) _ _ _ c.position.ensures.ran (YieldsList-from_slice text cc) (λ x b q k. search (rules, tests)) in
    split_found text c.in-Some.end (sym found ∙ c.in-Some.is)

pub returns-in-None : goal.returns-in-None
returns-in-None c =
    let text = c.args.text.now in
    let found : c.position.result ≡ position (λ b. b == 10) text =
    position_from_yields_List (λ b. b == 10) _ _ _ c.position.ensures.ran (YieldsList-from_slice text cc) (λ x b q k. search (rules, tests)) in
    let some : 0 < length text = search rules in
    (split_last text (sym found ∙ c.in-None.is) some, some)
