use Rattle.std.proofs.Common.{◌≡◌, ◌∙◌, rules, tests}
use Rattle.std.proofs.lemmas.Iterator.{YieldsList-from_slice}
use Rattle.std.proofs.lemmas.Iterator.Search.{position_from_yields_List}
use Rattle.std.specs.List.{position}
use Rattle.name_patterns.specs.Patterns.{is_mark}
use Rattle.name_patterns.proofs.PatternLemmas.{found_or_end}
use Rattle.name_patterns.proofs.patterns.close_place.Goals as goal

pub returns-clause-place : goal.returns-clause-place
returns-clause-place c =
    let glyphs = c.args.glyphs.now in
    let found : c.position.result ≡ position (is_mark 93) glyphs =
    position_from_yields_List (is_mark 93) _ _ _ c.position.ensures.ran (YieldsList-from_slice glyphs cc) (λ x b q k. search (rules, tests)) in
    c.unwrap_or.ensures ∙ found_or_end (is_mark 93) glyphs c.position.result found
