use Rattle.mark_table.proofs.MoveLemmas.{emptied_all, get-emptied}
use Rattle.mark_table.proofs.moving.departed.Goals as goal

pub returns : goal.returns
returns c = get-emptied c.args.moves.now c.args.marks.now c.loop-source.next (emptied_all _ c.loop-source.source-index _ _ c.loop-source-test.false c.loop-source.invariant)
