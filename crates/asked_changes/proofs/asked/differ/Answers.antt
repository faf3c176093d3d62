use Rattle.asked_changes.proofs.AskedLemmas.{no_tie}
use Rattle.asked_changes.proofs.asked.differ.Goals as goal

pub returns : goal.returns
returns c = no_tie c.args.a.now c.args.b.now c.is_same.result c.is_same.ensures
