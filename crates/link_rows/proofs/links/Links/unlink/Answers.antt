use Rattle.std.proofs.Common.{◌≡◌, rules, subst, sym}
use Rattle.link_rows.specs.Net.{IsNet, Unlinks, unlinked}
use Rattle.link_rows.proofs.NetLemmas.{unlinks}
use Rattle.link_rows.proofs.links.Links.unlink.Goals as goal

pub returns-clause-lists : goal.returns-clause-lists
returns-clause-lists c =
    let i : IsNet c.args.self.now.0 = subst (λ v. IsNet v.0) c.self.view_is c.self.invariant in
    let e : c.link.new.self.0 ≡ unlinked c.args.row c.args.self.now.0 = search rules in
    subst (λ t. Unlinks c.args.self.now.0 c.args.row t) (sym e) (unlinks c.args.self.now.0 c.args.row i c.requires)
