use Rattle.link_rows.specs.Net.{net}
use Rattle.link_rows.proofs.NetLemmas.{net-linked}
use Rattle.link_rows.proofs.links.Links.link.Goals as goal

pub invariant_of-self : goal.invariant_of-self
invariant_of-self c =
    net-linked (net c.self.inside.heads c.self.inside.next.items c.self.inside.prev.items) c.args.a c.args.b c.self.invariant
    (rw (← c.self.view_is) at c.requires.a_made) (rw (← c.self.view_is) at c.requires.b_made)
