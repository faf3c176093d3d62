use Rattle.std.proofs.Common.{◌≡◌, All, take}
use Rattle.tree_core.specs.History.{current_tree}
use Rattle.edit_words.specs.Sight.{sight_of}
use Rattle.edit_words.specs.Found.{HasFindings, IsClosed}
use Rattle.edit_words.specs.Found.{HasGrown}
use Rattle.edit_looks.specs.Looks.{IsRemovedSeen}
use Rattle.edit_looks.proofs.search.see_removed.Given as goal

abbrev pub invariant-loop-row : goal.invariant-loop-row
invariant-loop-row g l =
    let T = g.T.Tree in record {
      asked : All (IsRemovedSeen l.findings) (take l.row-index l.rows);
      grown : HasGrown l.fn.findings l.findings;
      closed : IsClosed l.findings;
      told : T.Tells → HasFindings l.findings (sight_of (current_tree (T.history l.fn.tree)));
      history : T.Tells → T.history l.tree ≡ T.history l.fn.tree;
      fields : T.Tells → T.fields l.tree ≡ T.fields l.fn.tree;
      before : T.Tells → T.before_failed l.tree ≡ T.before_failed l.fn.tree;
      faults : T.faults l.tree ≡ T.faults l.fn.tree;
      changes : T.changes l.tree ≡ T.changes l.fn.tree;
    }
