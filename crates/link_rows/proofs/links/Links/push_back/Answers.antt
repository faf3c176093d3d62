use Rattle.std.proofs.Common.{◌≡◌, rules, subst, sym}
use Rattle.link_rows.specs.Net.{IsNet, Pushes, pushed}
use Rattle.link_rows.proofs.NetLemmas.{pushes}
use Rattle.link_rows.proofs.links.Links.push_back.Goals as goal

pub returns-clause-lists : goal.returns-clause-lists
returns-clause-lists c =
    let i : IsNet c.args.self.now.0 = subst (λ v. IsNet v.0) c.self.view_is c.self.invariant in
    let e : c.link-2.new.self.0 ≡ pushed c.args.list c.args.self.now.0 = search rules in
    subst (λ t. Pushes c.args.self.now.0 c.args.list t) (sym e) (pushes c.args.self.now.0 c.args.list i)
