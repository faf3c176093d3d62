use Rattle.std.proofs.Common.{rules}
use Rattle.link_rows.specs.Net.{net}
use Rattle.link_rows.proofs.NetLemmas.{net-grown}
use Rattle.link_rows.proofs.links.Links.grow.Goals as goal

pub invariant_of-self : goal.invariant_of-self
invariant_of-self c =
    let h = net-grown (net c.self.inside.heads c.self.inside.next.items c.self.inside.prev.items) c.self.invariant in
    search (rules, h)
