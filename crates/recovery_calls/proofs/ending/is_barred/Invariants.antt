use Rattle.std.proofs.Common.{◌≡◌, drop}
use Rattle.std.specs.List.{list_any}
use Rattle.recovery_calls.specs.Endings.{bars}
use Rattle.recovery_calls.specs.Works.{names_of}
use Rattle.tree_core.specs.History.{current_tree}
use Rattle.recovery_calls.proofs.ending.is_barred.Given as goal

abbrev pub invariant-loop-entry : goal.invariant-loop-entry
invariant-loop-entry g l =
    let T = g.T.Tree in record {
      same : T.Tells → list_any (bars l.ending (current_tree (T.history l.fn.tree))) (names_of l.entries) ≡ list_any (bars l.ending (current_tree (T.history l.fn.tree))) (names_of (drop l.entry-index l.entries));
      history : T.Tells → T.history l.tree ≡ T.history l.fn.tree;
      fields : T.Tells → T.fields l.tree ≡ T.fields l.fn.tree;
      before : T.Tells → T.before_failed l.tree ≡ T.before_failed l.fn.tree;
      faults : T.faults l.tree ≡ T.faults l.fn.tree;
    }
