use Rattle.std.proofs.Common.{rules}
use Rattle.link_rows.specs.Net.{IsNet}
use Rattle.link_rows.proofs.KeptLemmas.{kept-by-cut, kept-by-push, kept-by-relink, kept-by-splice, kept-by-unlink}
use Rattle.link_rows.proofs.laws.an_unlinked_row_keeps_its_neighbours.Goals as goal

pub returns-clause-push : goal.returns-clause-push
returns-clause-push g c =
    let i : IsNet c.args.rows.now.net = search rules in
    kept-by-push c.args.rows.now.net i

pub returns-clause-unlink : goal.returns-clause-unlink
returns-clause-unlink g c = kept-by-unlink c.args.rows.now.net

pub returns-clause-relink : goal.returns-clause-relink
returns-clause-relink g c = kept-by-relink c.args.rows.now.net

pub returns-clause-splice : goal.returns-clause-splice
returns-clause-splice g c = kept-by-splice c.args.rows.now.net

pub returns-clause-cut : goal.returns-clause-cut
returns-clause-cut g c = kept-by-cut c.args.rows.now.net
