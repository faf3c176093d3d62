use Rattle.std.proofs.Common.{rules}
use Rattle.std.specs.Ordering.{is_lt}
use Rattle.std.proofs.lemmas.Fn.{always_returns_same}
use Rattle.commit_plan.specs.Boards.{deeper_cmp}
use Rattle.commit_plan.proofs.DeepLemmas.{deeper_ranks}
use Rattle.commit_plan.proofs.moves.deepen.Goals as goal

pub returns-clause-sorted : goal.returns-clause-sorted
returns-clause-sorted c =
    c.sort_unstable_by.ensures.sorted (λ x y. is_lt (deeper_cmp x y)) deeper_ranks (always_returns_same _ _ _ (λ a r f h. (search rules, search rules)))
