use Rattle.std.proofs.Common.{◌≡◌, drop, ◌+◌}
use Rattle.recovery_calls.specs.Looked.{looked_of}
use Rattle.recovery_calls.proofs.LookedLemmas.{with_some}
use Rattle.tree_core.specs.History.{current_tree}
use Rattle.recovery_calls.proofs.turning.look_at_all.Given as goal

abbrev pub invariant-loop-k : goal.invariant-loop-k
invariant-loop-k g l =
    let T = g.T.Tree in record {
      told : T.Tells → looked_of l.from l.steps (current_tree (T.history l.fn.tree)) ≡ with_some l.some_done (looked_of (l.from + l.k) (drop l.k l.steps) (current_tree (T.history l.fn.tree)));
      history : T.Tells → T.history l.tree ≡ T.history l.fn.tree;
      fields : T.Tells → T.fields l.tree ≡ T.fields l.fn.tree;
      before : T.Tells → T.before_failed l.tree ≡ T.before_failed l.fn.tree;
      faults : T.faults l.tree ≡ T.faults l.fn.tree;
    }
