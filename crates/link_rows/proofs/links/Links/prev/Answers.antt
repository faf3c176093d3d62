use Rattle.link_rows.proofs.NetLemmas.{below-get}
use Rattle.link_rows.proofs.links.Links.prev.Goals as goal

pub returns-clause-within : goal.returns-clause-within
returns-clause-within c =
    rw (← c.self.view_is, c.index.ensures)
    (below-get _ c.self.inside.prev.items c.args.node c.index.result.now c.self.invariant.prev (rw c.self.invariant.as_many (rw (← c.self.view_is) at c.requires)))
