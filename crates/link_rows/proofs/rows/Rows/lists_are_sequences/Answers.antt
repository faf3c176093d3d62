use Rattle.link_rows.proofs.NetLemmas.{same}
use Rattle.link_rows.proofs.rows.Rows.lists_are_sequences.Goals as goal

pub returns : goal.returns
returns g c =
    λ l xs ys a b. (same c.args.self.now.net l xs l ys l a.chain b.chain a.rows b.rows a.made b.made).1
