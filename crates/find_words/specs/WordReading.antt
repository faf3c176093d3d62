-- What a reader of words has read, and what it will read.
use Rattle.std.specs.Prelude.{ℕ, List, ◌++◌}
use Rattle.find_words.specs.Words.{Words, words_from}
use Rattle.find_words.specs.declared.words.Words.{Words as FoundWords}
use Rattle.find_words.specs.declared.words.WordReader.{WordReader}

abbrev pub as_words : FoundWords → Words
as_words words = record { whole = words.whole.items; is_closed = words.is_closed }

-- these words, and behind them others
abbrev pub in_front : List (List ℕ) → Words → Words
in_front whole words = record { whole = whole ++ words.whole; is_closed = words.is_closed }

-- the words of the whole text, where this is what follows
abbrev pub words_behind : WordReader → List ℕ → Words
words_behind reader cs = in_front reader.whole.items (words_from reader.place cs)
