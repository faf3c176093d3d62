use Rattle.std.proofs.Common.{◌≡◌, ◌∙◌, not, rules, tests}
use Rattle.std.proofs.lemmas.Iterator.{YieldsList-from_slice}
use Rattle.std.proofs.lemmas.Iterator.Search.{position_from_yields_List}
use Rattle.std.specs.List.{position}
use Rattle.listing_text.specs.Fields.{is_space}
use Rattle.listing_text.proofs.FieldLemmas.{found_or_end}
use Rattle.listing_text.proofs.fields.space_len.Goals as goal

pub returns-clause-len : goal.returns-clause-len
returns-clause-len c =
    let text = c.args.text.now in
    let found : c.position.result ≡ position (λ b. not (is_space b)) text =
    position_from_yields_List (λ b. not (is_space b)) _ _ _ c.position.ensures.ran (YieldsList-from_slice text cc) (λ x b q k. search (rules, tests)) in
    c.unwrap_or.ensures ∙ found_or_end (λ b. not (is_space b)) text c.position.result found
