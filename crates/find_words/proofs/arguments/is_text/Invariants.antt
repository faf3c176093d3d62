use Rattle.std.proofs.Common.{◌≡◌, length}
use Rattle.std.specs.Str.{bytes_eq}
use Rattle.find_words.proofs.arguments.is_text.Given as goal

abbrev pub invariant-loop-c : goal.invariant-loop-c
invariant-loop-c l = bytes_eq l.fn.word l.fn.text ≡ bytes_eq l.word l.text

abbrev pub decreases-loop-c : goal.decreases-loop-c
decreases-loop-c l = length l.word
