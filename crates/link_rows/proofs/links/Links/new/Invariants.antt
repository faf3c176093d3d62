use Rattle.std.proofs.Common.{◌≡◌}
use Rattle.link_rows.specs.Net.{numbers}
use Rattle.link_rows.proofs.links.Links.new.Given as goal

abbrev pub invariant-loop-head : goal.invariant-loop-head
invariant-loop-head l = (l.next.items ≡ numbers l.head) × (l.prev.items ≡ numbers l.head)
