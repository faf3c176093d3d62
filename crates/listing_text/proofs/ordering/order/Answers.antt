use Rattle.std.proofs.Common.{rules}
use Rattle.std.specs.Ordering.{is_lt}
use Rattle.std.proofs.lemmas.Fn.{always_returns_same}
use Rattle.listing_text.specs.Order.{line_cmp}
use Rattle.listing_text.proofs.OrderLemmas.{line_cmp_ranks}
use Rattle.listing_text.proofs.ordering.order.Goals as goal

pub returns-clause-sorted : goal.returns-clause-sorted
returns-clause-sorted c =
    c.sort_unstable_by.ensures.sorted (λ x y. is_lt (line_cmp c.args.switches.now x y)) (line_cmp_ranks c.args.switches.now) (always_returns_same _ _ _ (λ a r f h. (search rules, search rules)))
