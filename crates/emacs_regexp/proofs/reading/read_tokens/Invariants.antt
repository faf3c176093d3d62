use Rattle.std.proofs.Common.{◌≡◌, ◌≤◌, ◌+◌, ◌-◌, length}
use Rattle.emacs_regexp.specs.Reading.{tokens_read, tokens_from}
use Rattle.emacs_regexp.proofs.ReadLemmas.{behind_tokens}
use Rattle.emacs_regexp.proofs.reading.read_tokens.Given as goal

abbrev pub invariant-loop-c : goal.invariant-loop-c
invariant-loop-c l =
    (l.nesting.depth + length l.rest ≤ length l.text)
    × (tokens_read l.text ≡ behind_tokens l.tokens.items (tokens_from l.nesting l.before (length l.text - length l.rest) 0 l.rest))

abbrev pub decreases-loop-c : goal.decreases-loop-c
decreases-loop-c l = length l.rest
