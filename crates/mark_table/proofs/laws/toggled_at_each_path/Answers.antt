use Rattle.std.specs.FinMap.{get}
use Rattle.mark_table.specs.PathMarks.{flipped}
use Rattle.mark_table.proofs.MarkLemmas.{get-with_each}
use Rattle.mark_table.proofs.laws.toggled_at_each_path.Goals as goal

pub returns : goal.returns
returns c p = get-with_each (λ q. flipped (get c.args.marks.now.marks q)) c.args.shown.now c.args.marks.now.marks p
