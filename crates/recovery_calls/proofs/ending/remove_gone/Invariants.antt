use Rattle.std.proofs.Common.{◌≡◌, drop}
use Rattle.std.specs.List.{AllByRecursion}
use Rattle.commit_states.specs.Calls.{removals_by}
use Rattle.recovery_calls.specs.Endings.{MayEnd, gone_in}
use Rattle.recovery_calls.specs.Works.{names_of}
use Rattle.recovery_calls.proofs.RestLemmas.{Rest}
use Rattle.tree_core.specs.History.{current_tree}
use Rattle.recovery_calls.proofs.ending.remove_gone.Given as goal

abbrev pub invariant-loop-entry : goal.invariant-loop-entry
invariant-loop-entry g l =
    let T = g.T.Tree in record {
      rest : T.Tells → Rest (removals_by (gone_in l.ending (current_tree (T.history l.fn.tree)) (names_of l.entries))) (T.history l.fn.tree) (T.history l.tree)
          (removals_by (gone_in l.ending (current_tree (T.history l.tree)) (names_of (drop l.entry-index l.entries))));
      may : T.Tells → AllByRecursion (MayEnd l.ending (current_tree (T.history l.tree))) (names_of (drop l.entry-index l.entries));
      before : T.Tells → T.before_failed l.tree ≡ T.before_failed l.fn.tree;
      faults : T.faults l.tree ≡ T.faults l.fn.tree;
    }
