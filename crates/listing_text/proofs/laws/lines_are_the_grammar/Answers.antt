use Rattle.listing_text.proofs.GrammarLemmas.{grammar-read}
use Rattle.listing_text.proofs.GrammarBack.{grammar-from}
use Rattle.listing_text.proofs.laws.lines_are_the_grammar.Goals as goal

pub returns-clause-taken : goal.returns-clause-taken
returns-clause-taken c = λ mark line h. grammar-read mark line c.args.text.now h

pub returns-clause-shown : goal.returns-clause-shown
returns-clause-shown c = λ mark line e. grammar-from mark line c.args.text.now e
