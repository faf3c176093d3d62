use Rattle.std.proofs.Common.{◌≡◌, List, ℕ, take}
use Rattle.tree_core.specs.History.{current_tree}
use Rattle.subdir_list.specs.Listings.{AreSections, listing_of}
use Rattle.subdir_list.proofs.sections.list_dirs.Given as goal

abbrev pub invariant-loop-path : goal.invariant-loop-path
invariant-loop-path g l =
    let T = g.T.Tree in record {
      sections : T.Tells → (sections : List (List ℕ)) × AreSections l.switches (current_tree (T.history l.fn.tree)) (T.fields l.fn.tree) (take l.path-index l.path-items) sections × (l.text.items ≡ listing_of sections);
      history : T.Tells → T.history l.tree ≡ T.history l.fn.tree;
      fields : T.Tells → T.fields l.tree ≡ T.fields l.fn.tree;
      found : T.Tells → T.before_failed l.tree ≡ T.before_failed l.fn.tree;
      faults : T.faults l.tree ≡ T.faults l.fn.tree;
      changes : T.changes l.tree ≡ T.changes l.fn.tree;
    }
