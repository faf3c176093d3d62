use Rattle.std.proofs.Common.{◌≡◌, rules, [], refl, false}
use Rattle.find_words.specs.Reading.{start}
use Rattle.find_words.proofs.EndLemmas.{early_unclosed}
use Rattle.find_words.proofs.reading.read_nothing.Goals as goal

pub returns-then-not-is_closed : goal.returns-then-not-is_closed
returns-then-not-is_closed c =
    let open_quote : c.args.is_closed ≡ false = search rules in
    early_unclosed [] c.args.is_closed start refl open_quote
