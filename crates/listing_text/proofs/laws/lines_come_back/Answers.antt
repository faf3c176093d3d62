use Rattle.listing_text.specs.Grammar.{as_shown}
use Rattle.listing_text.specs.Listed.{line_text_of}
use Rattle.listing_text.proofs.GrammarLemmas.{grammar-read}
use Rattle.listing_text.proofs.WrittenLemmas.{line-written}
use Rattle.listing_text.proofs.laws.lines_come_back.Goals as goal

pub returns : goal.returns
returns c = λ low high lawful.
    grammar-read c.args.mark (as_shown c.args.line.now) (line_text_of c.args.mark c.args.line.now c.args.widths.now) (line-written c.args.mark c.args.line.now c.args.widths.now low high lawful)
