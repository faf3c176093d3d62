use Rattle.std.proofs.Common.{◌≡◌, take, map}
use Rattle.staging_names.specs.Names.{name_read}
use Rattle.tree_core.specs.History.{current_tree}
use Rattle.recovery_start.specs.Start.{found_at, name_found}
use Rattle.recovery_start.proofs.finding.find.Given as goal

abbrev pub invariant-loop-k : goal.invariant-loop-k
invariant-loop-k g l =
    let T = g.T.Tree in record {
      found : T.Tells → l.found.items ≡ map (found_at (current_tree (T.history l.fn.tree))) (take l.k l.names);
      names : map name_found l.found.items ≡ map name_read (take l.k l.names);
      history : T.Tells → T.history l.tree ≡ T.history l.fn.tree;
      fields : T.Tells → T.fields l.tree ≡ T.fields l.fn.tree;
      before : T.Tells → T.before_failed l.tree ≡ T.before_failed l.fn.tree;
      faults : T.faults l.tree ≡ T.faults l.fn.tree;
      changes : T.changes l.tree ≡ T.changes l.fn.tree;
    }
