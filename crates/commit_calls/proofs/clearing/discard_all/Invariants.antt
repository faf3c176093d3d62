use Rattle.std.proofs.Common.{◌≡◌, drop}
use Rattle.commit_states.specs.Calls.{removals_by, held_items}
use Rattle.tree_core.proofs.Runs.{Left}
use Rattle.commit_calls.proofs.clearing.discard_all.Given as goal

abbrev pub invariant-loop-k : goal.invariant-loop-k
invariant-loop-k g l = record {
  left : g.T.Tree.Tells → Left (removals_by (held_items l.held)) (g.T.Tree.history l.fn.tree) (g.T.Tree.history l.tree) (removals_by (held_items (drop l.k l.held)));
  kept : g.T.Tree.Tells → g.T.Tree.before_failed l.tree ≡ g.T.Tree.before_failed l.fn.tree;
  no_fault : g.T.Tree.faults l.tree ≡ g.T.Tree.faults l.fn.tree;
}
