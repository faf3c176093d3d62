use Rattle.std.proofs.Common.{◌≡◌, ◌≢◌, rules, subst, sym}
use Rattle.link_rows.specs.Net.{IsNet, Splices, next_of, spliced}
use Rattle.link_rows.proofs.SpliceLemmas.{splices, splices-none}
use Rattle.link_rows.proofs.links.Links.splice.Goals as goal

pub returns-then-first-other-clause-lists : goal.returns-then-first-other-clause-lists
returns-then-first-other-clause-lists c =
    let i : IsNet c.args.self.now.0 = subst (λ v. IsNet v.0) c.self.view_is c.self.invariant in
    let e : c.link-then-first-other-2.new.self.0 ≡ spliced c.args.after c.args.other c.args.self.now.0 = search rules in
    let n : next_of c.args.self.now.0 c.args.other ≢ c.args.other = search rules in
    subst (λ t. Splices c.args.self.now.0 c.args.after c.args.other t) (sym e) (splices c.args.self.now.0 c.args.after c.args.other i c.requires.after n)

pub returns-else-first-other-clause-lists : goal.returns-else-first-other-clause-lists
returns-else-first-other-clause-lists c =
    let n : next_of c.args.self.now.0 c.args.other ≡ c.args.other = search rules in
    splices-none c.args.self.now.0 c.args.after c.args.other n
