use Rattle.link_rows.proofs.NetLemmas.{below-get}
use Rattle.link_rows.proofs.links.Links.next.Goals as goal

pub returns-clause-within : goal.returns-clause-within
returns-clause-within c =
    rw (← c.self.view_is, c.index.ensures)
    (below-get _ c.self.inside.next.items c.args.node c.index.result.now c.self.invariant.next (rw (← c.self.view_is) at c.requires))
