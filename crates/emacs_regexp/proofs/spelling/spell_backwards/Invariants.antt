use Rattle.std.proofs.Common.{◌≡◌, length}
use Rattle.emacs_regexp.specs.Backwards.{state_of}
use Rattle.emacs_regexp.proofs.SpellLemmas.{all_spelled, none_spelled}
use Rattle.emacs_regexp.proofs.spelling.spell_backwards.Given as goal

abbrev pub invariant-loop-token : goal.invariant-loop-token
invariant-loop-token l = all_spelled l.rest (state_of l.spelled) ≡ all_spelled l.tokens none_spelled

abbrev pub decreases-loop-token : goal.decreases-loop-token
decreases-loop-token l = length l.rest
