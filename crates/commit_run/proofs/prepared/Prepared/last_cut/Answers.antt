use Rattle.std.proofs.Common.{◌≡◌, ◌∙◌, length, rules}
use Rattle.commit_run.proofs.GroupLemmas.{ends_many}
use Rattle.commit_run.proofs.prepared.Prepared.last_cut.Goals as goal

pub returns : goal.returns
returns c =
    let many : c.len.result ≡ length c.args.self.now.ends.items = search rules in
    many ∙ ends_many c.args.self.now c.requires.prepared
