use Rattle.std.proofs.Common.{◌≡◌, ◌∙◌, ◌<◌, ◌-◌, List, ℕ, length, get_or, ap, arith, rules}
use Rattle.commit_calls.specs.Cuts.{cut_at}
use Rattle.step_trees.specs.Groups.{groups}
use Rattle.commit_run.proofs.GroupLemmas.{cut_within, ends_many, place_is}
use Rattle.commit_run.proofs.prepared.Prepared.place.Goals as goal

pub end_at-requires : goal.end_at-requires
end_at-requires c =
    let same : c.deref.result.now ≡ c.args.self.now.ends.items = search rules in
    let long : length c.deref.result.now ≡ length c.args.self.now.ends.items = ap length same in
    let many = ends_many c.args.self.now c.requires.prepared in
    let le = c.requires.cut in
    let some : 0 < c.args.cut = search rules in
    omega arith

pub returns-else-cut-eq0-clause-place : goal.returns-else-cut-eq0-clause-place
returns-else-cut-eq0-clause-place c =
    let same : c.deref.result.now ≡ c.args.self.now.ends.items = search rules in
    let some : 0 < c.args.cut = search rules in
    c.end_at.ensures ∙ ap (λ (l : List ℕ). get_or l (c.args.cut - 1) 0) same ∙ place_is c.args.self.now c.requires.prepared c.args.cut c.requires.cut some

pub returns-else-cut-eq0-clause-within : goal.returns-else-cut-eq0-clause-within
returns-else-cut-eq0-clause-within c =
    let place : c.end_at.result ≡ cut_at c.args.cut (groups c.args.self.now.steps) = returns-else-cut-eq0-clause-place c in
    let le = cut_within c.args.self.now c.requires.prepared c.args.cut c.requires.cut in
    omega arith
