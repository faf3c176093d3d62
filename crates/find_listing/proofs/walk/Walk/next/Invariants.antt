use Rattle.std.proofs.Common.{◌≡◌, length}
use Rattle.find_listing.specs.Walks.{pending}
use Rattle.find_listing.proofs.walk.Walk.next.Given as goal

abbrev pub invariant-loop-name : goal.invariant-loop-name
invariant-loop-name l = pending l.self ≡ pending l.fn.self

abbrev pub decreases-loop-name : goal.decreases-loop-name
decreases-loop-name l = length l.self.above.items
