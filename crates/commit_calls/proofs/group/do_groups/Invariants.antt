use Rattle.std.proofs.Common.{◌≡◌, take}
use Rattle.commit_states.specs.Calls.{calls_from}
use Rattle.step_trees.specs.Groups.{groups}
use Rattle.tree_core.specs.Runs.{then_all}
use Rattle.commit_calls.proofs.EndLemmas.{Here}
use Rattle.commit_calls.proofs.group.do_groups.Given as goal

abbrev pub invariant-loop-k : goal.invariant-loop-k
invariant-loop-k g l = record {
  here : Here l.steps l.ends l.k l.from;
  done : g.T.Tree.Tells → g.T.Tree.history l.tree ≡ then_all (g.T.Tree.history l.fn.tree) (calls_from 0 (take l.k (groups l.steps)));
  kept : g.T.Tree.Tells → g.T.Tree.before_failed l.tree ≡ g.T.Tree.before_failed l.fn.tree;
  no_fault : g.T.Tree.faults l.tree ≡ g.T.Tree.faults l.fn.tree;
}
