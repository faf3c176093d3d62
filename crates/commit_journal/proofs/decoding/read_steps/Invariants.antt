use Rattle.std.proofs.Common.{◌≡◌, ◌-◌, ◌≤◌, [], length}
use Rattle.commit_journal.specs.Grammar.{max_all_bytes}
use Rattle.commit_journal.specs.Reading.{with_front, steps_at}
use Rattle.commit_journal.proofs.ReadLemmas.{IsBytes}
use Rattle.commit_journal.proofs.decoding.read_steps.Given as goal

abbrev pub invariant-loop : goal.invariant-loop
invariant-loop l = record {
  read : with_front l.steps.items (steps_at l.version l.base.items l.left (l.count - l.counter) l.rest) ≡ steps_at l.version [] max_all_bytes l.count l.from;
  within : length l.rest ≤ length l.bytes;
  fit : IsBytes l.rest;
}
