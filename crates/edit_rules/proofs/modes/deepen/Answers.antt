use Rattle.std.proofs.Common.{rules}
use Rattle.std.specs.Ordering.{is_lt}
use Rattle.std.proofs.lemmas.Fn.{always_returns_same}
use Rattle.edit_rules.specs.Plans.{deepest_first}
use Rattle.edit_rules.proofs.PlanLemmas.{deepest_ranks}
use Rattle.edit_rules.proofs.modes.deepen.Goals as goal

pub returns-clause-sorted : goal.returns-clause-sorted
returns-clause-sorted c =
    c.sort_unstable_by.ensures.sorted (λ x y. is_lt (deepest_first x y)) deepest_ranks (always_returns_same _ _ _ (λ a r f h. (search rules, search rules)))
