use Rattle.std.proofs.Common.{◌≡◌}
use Rattle.step_looks.proofs.UndoLemmas.{Undoing}
use Rattle.step_looks.proofs.undoing.undo_done.Given as goal

abbrev pub invariant-loop-k : goal.invariant-loop-k
invariant-loop-k g l =
    let T = g.T.Tree in record {
      undoing : T.Tells → Undoing l.steps l.k (T.history l.fn.tree) (T.history l.tree);
      before : T.Tells → T.before_failed l.tree ≡ T.before_failed l.fn.tree;
      faults : T.faults l.tree ≡ T.faults l.fn.tree;
    }
