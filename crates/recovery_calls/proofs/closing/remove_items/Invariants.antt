use Rattle.std.proofs.Common.{◌≡◌, drop}
use Rattle.recovery_calls.specs.Closing.{item_calls}
use Rattle.tree_core.proofs.Runs.{Left}
use Rattle.recovery_calls.proofs.closing.remove_items.Given as goal

abbrev pub invariant-loop-item : goal.invariant-loop-item
invariant-loop-item g l =
    let T = g.T.Tree in record {
      left : T.Tells → Left (item_calls l.items) (T.history l.fn.tree) (T.history l.tree) (item_calls (drop l.item-index l.items));
      before : T.Tells → T.before_failed l.tree ≡ T.before_failed l.fn.tree;
      faults : T.faults l.tree ≡ T.faults l.fn.tree;
    }
