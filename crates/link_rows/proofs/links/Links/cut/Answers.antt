use Rattle.std.proofs.Common.{◌≡◌, rules, subst, sym}
use Rattle.link_rows.specs.Net.{IsNet, Cuts, cut_out}
use Rattle.link_rows.proofs.CutLemmas.{cuts}
use Rattle.link_rows.proofs.links.Links.cut.Goals as goal

pub returns-clause-lists : goal.returns-clause-lists
returns-clause-lists c =
    let i : IsNet c.args.self.now.0 = subst (λ v. IsNet v.0) c.self.view_is c.self.invariant in
    let e : c.link-3.new.self.0 ≡ cut_out c.args.first c.args.last c.args.other c.args.self.now.0 = search rules in
    subst (λ t. Cuts c.args.self.now.0 c.args.first c.args.last c.args.other t) (sym e) (cuts c.args.self.now.0 c.args.first c.args.last c.args.other i c.requires.last)
