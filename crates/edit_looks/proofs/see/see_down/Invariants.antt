use Rattle.std.proofs.Common.{◌≡◌}
use Rattle.tree_core.specs.History.{current_tree}
use Rattle.edit_words.specs.Sight.{sight_of}
use Rattle.edit_words.specs.Found.{HasFindings, HasGrown, IsClosed}
use Rattle.edit_looks.proofs.LookLemmas.{AreDirsTo}
use Rattle.edit_looks.proofs.see.see_down.Given as goal

abbrev pub invariant-loop-len : goal.invariant-loop-len
invariant-loop-len g l =
    let T = g.T.Tree in record {
      dirs : AreDirsTo l.findings l.path l.len;
      grown : HasGrown l.fn.findings l.findings;
      closed : IsClosed l.findings;
      told : T.Tells → HasFindings l.findings (sight_of (current_tree (T.history l.fn.tree)));
      history : T.Tells → T.history l.tree ≡ T.history l.fn.tree;
      fields : T.Tells → T.fields l.tree ≡ T.fields l.fn.tree;
      before : T.Tells → T.before_failed l.tree ≡ T.before_failed l.fn.tree;
      faults : T.faults l.tree ≡ T.faults l.fn.tree;
      changes : T.changes l.tree ≡ T.changes l.fn.tree;
    }
