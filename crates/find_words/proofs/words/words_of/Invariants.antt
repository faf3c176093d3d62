use Rattle.std.proofs.Common.{◌≡◌, length}
use Rattle.std.specs.Str.{chars}
use Rattle.find_words.specs.Words.{words_of}
use Rattle.find_words.specs.WordReading.{words_behind}
use Rattle.find_words.proofs.words.words_of.Given as goal

abbrev pub invariant-loop-c : goal.invariant-loop-c
invariant-loop-c l = words_of (chars l.text) ≡ words_behind l.reader l.rest

abbrev pub decreases-loop-c : goal.decreases-loop-c
decreases-loop-c l = length l.rest
