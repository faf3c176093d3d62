-- What a text says as a predicate on files, in the terms of the grammar of predicates.
use Rattle.std.specs.Prelude.{ℕ, List, Result, Ok, Err}
use Rattle.std.specs.Str.{chars}
use Rattle.find_words.specs.declared.fault.FindFault.{FindFault}
use Rattle.find_words.specs.declared.fault.FindFault.TheVariants.{Bad, Memory}
use Rattle.find_words.specs.Expressions.{Expression}
use Rattle.find_words.specs.Grammar.{Reads, IsFirstFault}
use Rattle.find_words.specs.Words.{words_of}

-- the text is this predicate, or can't go on at this word; a text says one thing at most
abbrev pub Says : List ℕ → Result Expression FindFault → Type 0
Says text (Ok predicate) = Reads (words_of (chars text)) predicate
Says text (Err (Bad word)) = IsFirstFault (words_of (chars text)) word
Says text (Err Memory) = ⊥
