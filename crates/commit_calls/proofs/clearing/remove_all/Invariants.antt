use Rattle.std.proofs.Common.{◌≡◌, drop}
use Rattle.commit_calls.specs.Parts.{remove_calls}
use Rattle.tree_core.proofs.Runs.{Left}
use Rattle.commit_calls.proofs.clearing.remove_all.Given as goal

abbrev pub invariant-loop-path : goal.invariant-loop-path
invariant-loop-path g l = record {
  left : g.T.Tree.Tells → Left (remove_calls l.paths) (g.T.Tree.history l.fn.tree) (g.T.Tree.history l.tree) (remove_calls (drop l.path-index l.paths));
  kept : g.T.Tree.Tells → g.T.Tree.before_failed l.tree ≡ g.T.Tree.before_failed l.fn.tree;
  no_fault : g.T.Tree.faults l.tree ≡ g.T.Tree.faults l.fn.tree;
}
