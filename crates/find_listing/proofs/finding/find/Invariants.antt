use Rattle.std.proofs.Common.{◌≡◌, ◌++◌, flat_map}
use Rattle.std.specs.List.{AllByRecursion}
use Rattle.tree_core.specs.FileTree.{Stands}
use Rattle.tree_core.specs.History.{current_tree}
use Rattle.find_listing.specs.Finds.{lines_found}
use Rattle.find_listing.specs.Walks.{pending}
use Rattle.find_listing.proofs.WalkLemmas.{IsWalked, lines_below, weight}
use Rattle.find_listing.proofs.finding.find.Given as goal

abbrev pub invariant-loop-lines : goal.invariant-loop-lines
invariant-loop-lines g l =
    let T = g.T.Tree in record {
      lines : T.Tells → lines_found (current_tree (T.history l.fn.tree)) (T.fields l.fn.tree) l.now l.predicate
          ≡ l.lines.items ++ flat_map (lines_below (current_tree (T.history l.fn.tree)) (T.fields l.fn.tree) l.now l.predicate) (pending l.walk);
      stand : T.Tells → AllByRecursion (Stands (current_tree (T.history l.fn.tree))) (pending l.walk);
      walked : IsWalked l.lines.items (pending l.walk);
      history : T.Tells → T.history l.tree ≡ T.history l.fn.tree;
      fields : T.Tells → T.fields l.tree ≡ T.fields l.fn.tree;
      found : T.Tells → T.before_failed l.tree ≡ T.before_failed l.fn.tree;
      faults : T.faults l.tree ≡ T.faults l.fn.tree;
      changes : T.changes l.tree ≡ T.changes l.fn.tree;
    }

abbrev pub decreases-loop-lines : goal.decreases-loop-lines
decreases-loop-lines g l = weight (pending l.walk)
