use Rattle.std.proofs.Common.{◌≡◌, rules, ◌∙◌, ap}
use Rattle.link_rows.specs.Net.{next_of}
use Rattle.link_rows.specs.Tables.{node, row_of}
use Rattle.link_rows.proofs.NetLemmas.{next-row}
use Rattle.link_rows.proofs.rows.Rows.next.Goals as goal

pub returns-clause-row : goal.returns-clause-row
returns-clause-row g c =
    let e : c.next.result ≡ next_of c.args.self.now.net (node c.args.self.now.net c.args.row.0) = search rules in
    λ l xs ys i. c.row_at.ensures.row ∙ (ap (λ v. row_of c.args.self.now.net v) e ∙ next-row c.args.self.now.net l xs (node c.args.self.now.net c.args.row.0) ys i)
