use Rattle.std.proofs.Common.{◌≡◌, take}
use Rattle.commit_states.specs.Calls.{undo_calls}
use Rattle.tree_core.proofs.Runs.{Left}
use Rattle.commit_calls.proofs.group.undo_all.Given as goal

abbrev pub invariant-loop-k : goal.invariant-loop-k
invariant-loop-k g l = record {
  left : g.T.Tree.Tells → Left (undo_calls l.steps) (g.T.Tree.history l.fn.tree) (g.T.Tree.history l.tree) (undo_calls (take l.k l.steps));
  kept : g.T.Tree.Tells → g.T.Tree.before_failed l.tree ≡ g.T.Tree.before_failed l.fn.tree;
  no_fault : g.T.Tree.faults l.tree ≡ g.T.Tree.faults l.fn.tree;
}
