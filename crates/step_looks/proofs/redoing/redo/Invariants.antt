use Rattle.std.proofs.Common.{◌≡◌}
use Rattle.step_looks.proofs.RedoLemmas.{Redoing}
use Rattle.step_looks.proofs.redoing.redo.Given as goal

abbrev pub invariant-loop-k : goal.invariant-loop-k
invariant-loop-k g l =
    let T = g.T.Tree in record {
      redoing : T.Tells → Redoing l.steps l.from l.k (T.history l.fn.tree) (T.history l.tree);
      before : T.Tells → T.before_failed l.tree ≡ T.before_failed l.fn.tree;
      faults : T.faults l.tree ≡ T.faults l.fn.tree;
    }
