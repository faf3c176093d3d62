use Rattle.std.proofs.Common.{◌≡◌, drop}
use Rattle.commit_run.specs.BeforePlan.{standing_removed}
use Rattle.commit_run.proofs.RestLemmas.{Rest}
use Rattle.tree_core.specs.History.{current_tree}
use Rattle.commit_run.proofs.back.remove_standing.Given as goal

abbrev pub invariant-loop-path : goal.invariant-loop-path
invariant-loop-path g l =
    let T = g.T.Tree in record {
      rest : T.Tells → Rest (standing_removed l.paths (current_tree (T.history l.fn.tree))) (T.history l.fn.tree) (T.history l.tree) (standing_removed (drop l.path-index l.paths) (current_tree (T.history l.tree)));
      before : T.Tells → T.before_failed l.tree ≡ T.before_failed l.fn.tree;
      faults : T.faults l.tree ≡ T.faults l.fn.tree;
    }
