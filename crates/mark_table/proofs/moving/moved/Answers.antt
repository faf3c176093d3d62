use Rattle.std.proofs.lemmas.Result.{IfOk-weaker}
use Rattle.mark_table.proofs.MoveLemmas.{all_moved}
use Rattle.mark_table.proofs.moving.moved.Goals as goal

pub returns : goal.returns
returns c = IfOk-weaker c.arrived.result _ _ (λ m come. all_moved c.args.moves.now c.args.marks.now c.in_ok-next.next m c.in_ok-next.ensures come) c.arrived.ensures
