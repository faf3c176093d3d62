use Rattle.std.proofs.Common.{◌≡◌, ℕ, List, ◌+◌, ◌-◌, ◌++◌, ◌≤◌, length, None, Result}
use Rattle.find_words.specs.Expressions.{Expression}
use Rattle.find_words.specs.declared.fault.FindFault.{FindFault}
use Rattle.omit_rules.specs.Values.{values_of}
use Rattle.tree_core.specs.Looks.{OnlyLooked}
use Rattle.dired_session.specs.Desks.{seen}
use Rattle.dired_session.specs.Ends.{tally}
use Rattle.dired_session.specs.Scripts.{Reaches, opened}
use Rattle.dired_session.proofs.script.run_script.Given as goal

abbrev pub invariant-loop-at : goal.invariant-loop-at
invariant-loop-at g l =
    let o = seen (g.T.Tree.history l.fn.tree) (g.T.Tree.fields l.fn.tree) in
    record {
      first : 1 ≤ l.at;
      last : l.at ≤ length l.script + 1;
      so_far : (text : List ℕ) × ((g.T.Tree.Tells → (saids : List (Result Expression FindFault)) × Reaches saids o l.script 1 (opened l.fn.rules (values_of l.fn.settings) o) l.at l.session text)
          × (g.W.Sink.Tells → g.W.Sink.taken l.sink ≡ g.W.Sink.taken l.fn.sink ++ text));
      looked : g.T.Tree.Tells → OnlyLooked None (g.T.Tree.history l.fn.tree) (g.T.Tree.history l.tree) (g.T.Tree.fields l.fn.tree) (g.T.Tree.fields l.tree) (g.T.Tree.before_failed l.fn.tree) (g.T.Tree.before_failed l.tree);
      unchanged : g.T.Tree.changes l.tree ≡ g.T.Tree.changes l.fn.tree;
      counts : tally (g.T.Tree.faults l.tree) (g.W.Sink.faults l.sink) ≡ tally (g.T.Tree.faults l.fn.tree) (g.W.Sink.faults l.fn.sink);
      unused : (l.shelf ≡ l.fn.shelf) × (l.patterns ≡ l.fn.patterns) × (l.shell ≡ l.fn.shell);
    }

abbrev pub decreases-loop-at : goal.decreases-loop-at
decreases-loop-at g l = length l.script + 1 - l.at
