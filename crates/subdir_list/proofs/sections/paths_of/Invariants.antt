use Rattle.std.proofs.Common.{◌≡◌, All, drop}
use Rattle.tree_core.specs.FileTree.{IsDir}
use Rattle.tree_core.specs.History.{current_tree}
use Rattle.subdir_list.specs.Listings.{first_other, listed_paths, paths_with}
use Rattle.subdir_list.proofs.sections.paths_of.Given as goal

abbrev pub invariant-loop-dir : goal.invariant-loop-dir
invariant-loop-dir g l =
    let T = g.T.Tree in record {
      paths : listed_paths l.dirs ≡ paths_with l.paths.keys (drop l.dir-index l.dirs);
      dirs : T.Tells → All (λ p. IsDir (current_tree (T.history l.fn.tree)) p) l.paths.keys;
      first : T.Tells → first_other (current_tree (T.history l.fn.tree)) l.dirs ≡ first_other (current_tree (T.history l.fn.tree)) (drop l.dir-index l.dirs);
      history : T.Tells → T.history l.tree ≡ T.history l.fn.tree;
      fields : T.Tells → T.fields l.tree ≡ T.fields l.fn.tree;
      found : T.Tells → T.before_failed l.tree ≡ T.before_failed l.fn.tree;
      faults : T.faults l.tree ≡ T.faults l.fn.tree;
      changes : T.changes l.tree ≡ T.changes l.fn.tree;
    }
