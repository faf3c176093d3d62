use Rattle.std.proofs.Common.{◌≡◌, drop}
use Rattle.commit_states.specs.Calls.{fresh_calls}
use Rattle.tree_core.proofs.Runs.{Left}
use Rattle.commit_calls.proofs.staging.make_entries.Given as goal

abbrev pub invariant-loop-k : goal.invariant-loop-k
invariant-loop-k g l = record {
  left : g.T.Tree.Tells → Left (fresh_calls 0 l.fresh) (g.T.Tree.history l.fn.tree) (g.T.Tree.history l.tree) (fresh_calls l.k (drop l.k l.fresh));
  kept : g.T.Tree.Tells → g.T.Tree.before_failed l.tree ≡ g.T.Tree.before_failed l.fn.tree;
  no_fault : g.T.Tree.faults l.tree ≡ g.T.Tree.faults l.fn.tree;
}
