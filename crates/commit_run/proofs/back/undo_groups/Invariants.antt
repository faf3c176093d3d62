use Rattle.std.proofs.Common.{◌≡◌}
use Rattle.commit_run.specs.WayBack.{undone_groups}
use Rattle.commit_run.proofs.RestLemmas.{Rest}
use Rattle.commit_run.proofs.back.undo_groups.Given as goal

abbrev pub invariant-loop-k : goal.invariant-loop-k
invariant-loop-k g l =
    let T = g.T.Tree in record {
      rest : T.Tells → Rest (undone_groups l.prepared.steps l.from (T.history l.fn.tree)) (T.history l.fn.tree) (T.history l.tree) (undone_groups l.prepared.steps l.k (T.history l.tree));
      before : T.Tells → T.before_failed l.tree ≡ T.before_failed l.fn.tree;
      faults : T.faults l.tree ≡ T.faults l.fn.tree;
    }
