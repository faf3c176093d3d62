use Rattle.std.proofs.Common.{◌≡◌, rules, subst, sym}
use Rattle.link_rows.specs.Net.{IsNet, Relinks, relinked}
use Rattle.link_rows.proofs.NetLemmas.{relinks}
use Rattle.link_rows.proofs.links.Links.relink.Goals as goal

pub returns-clause-lists : goal.returns-clause-lists
returns-clause-lists c =
    let i : IsNet c.args.self.now.0 = subst (λ v. IsNet v.0) c.self.view_is c.self.invariant in
    let e : c.link-2.new.self.0 ≡ relinked c.args.row c.args.self.now.0 = search rules in
    λ k. subst (λ t. Relinks c.args.self.now.0 c.args.row t) (sym e) (relinks c.args.self.now.0 c.args.row i k)
