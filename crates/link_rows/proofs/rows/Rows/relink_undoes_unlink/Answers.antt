use Rattle.std.proofs.Common.{rules}
use Rattle.link_rows.specs.Net.{IsNet}
use Rattle.link_rows.specs.Tables.{node}
use Rattle.link_rows.proofs.UndoLemmas.{undone}
use Rattle.link_rows.proofs.rows.Rows.relink_undoes_unlink.Goals as goal

pub returns : goal.returns
returns g c =
    let i : IsNet c.args.self.now.net = search rules in
    λ l xs ys j. undone c.args.self.now.net l xs (node c.args.self.now.net c.args.row.0) ys i j
