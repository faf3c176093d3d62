use Rattle.std.proofs.Common.{◌≡◌, take, false}
use Rattle.tree_core.specs.History.{current_tree}
use Rattle.step_looks.specs.Undoing.{any_goes_back}
use Rattle.step_looks.proofs.undoing.any_done.Given as goal

abbrev pub invariant-loop-k : goal.invariant-loop-k
invariant-loop-k g l =
    let T = g.T.Tree in record {
      none : T.Tells → any_goes_back (take l.k l.steps) (current_tree (T.history l.fn.tree)) ≡ false;
      history : T.Tells → T.history l.tree ≡ T.history l.fn.tree;
      fields : T.Tells → T.fields l.tree ≡ T.fields l.fn.tree;
      before : T.Tells → T.before_failed l.tree ≡ T.before_failed l.fn.tree;
      faults : T.faults l.tree ≡ T.faults l.fn.tree;
    }
