use Rattle.std.proofs.Common.{◌≡◌, ◌∙◌, [], List, length, get_or, ap, arith, rules}
use Rattle.dired_text.specs.Paths.{Names}
use Rattle.commit_run.proofs.GroupLemmas.{at_many, at_path}
use Rattle.commit_run.proofs.prepared.Prepared.at_marker.Goals as goal

pub path_at-requires : goal.path_at-requires
path_at-requires c =
    let same : c.deref.result.now ≡ c.args.self.now.at_markers.items = search rules in
    let long : length c.deref.result.now ≡ length c.args.self.now.at_markers.items = ap length same in
    let many = at_many c.args.self.now c.requires.prepared in
    let le = c.requires.cut in
    omega arith

pub returns : goal.returns
returns c =
    let same : c.deref.result.now ≡ c.args.self.now.at_markers.items = search rules in
    c.path_at.ensures ∙ ap (λ (l : List Names). get_or l c.args.cut []) same ∙ at_path c.args.self.now c.requires.prepared c.args.cut c.requires.cut
