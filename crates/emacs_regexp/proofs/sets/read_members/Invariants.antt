use Rattle.std.proofs.Common.{◌≡◌, ◌≤◌, ◌+◌, ◌-◌, true, length}
use Rattle.emacs_regexp.specs.Sets.{members_from}
use Rattle.emacs_regexp.proofs.SetLemmas.{in_front}
use Rattle.emacs_regexp.proofs.sets.read_members.Given as goal

abbrev pub invariant-loop-c : goal.invariant-loop-c
invariant-loop-c l =
    (l.at + length l.rest ≡ l.from + length l.text)
    × (length l.rest ≤ length l.text)
    × (members_from l.opened true l.from 0 l.text ≡ in_front l.members (length l.text - length l.rest) (members_from l.opened l.is_first l.at 0 l.rest))

abbrev pub decreases-loop-c : goal.decreases-loop-c
decreases-loop-c l = length l.rest
