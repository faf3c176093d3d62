use Rattle.std.proofs.Common.{inl, refl, rules}
use Rattle.dired_text.proofs.mem_patterns.MemPatternsPatterns.build.Goals as goal

pub returns-then-contains-clause-may_fail : goal.returns-then-contains-clause-may_fail
returns-then-contains-clause-may_fail c same = inl (search rules)

pub returns-in-Ok-clause-obeys : goal.returns-in-Ok-clause-obeys
returns-in-Ok-clause-obeys c = record {
  refused = λ scheduled. absurd (search (rules, scheduled));
  one_more = record { schedule_stays = refl; counted = c.saturating_add-self.ensures };
}
