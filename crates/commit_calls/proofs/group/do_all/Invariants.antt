use Rattle.std.proofs.Common.{◌≡◌, drop}
use Rattle.commit_states.specs.Calls.{do_calls}
use Rattle.tree_core.proofs.Runs.{Left}
use Rattle.commit_calls.proofs.group.do_all.Given as goal

abbrev pub invariant-loop-step : goal.invariant-loop-step
invariant-loop-step g l = record {
  left : g.T.Tree.Tells → Left (do_calls l.steps) (g.T.Tree.history l.fn.tree) (g.T.Tree.history l.tree) (do_calls (drop l.step-index l.steps));
  kept : g.T.Tree.Tells → g.T.Tree.before_failed l.tree ≡ g.T.Tree.before_failed l.fn.tree;
  no_fault : g.T.Tree.faults l.tree ≡ g.T.Tree.faults l.fn.tree;
}
