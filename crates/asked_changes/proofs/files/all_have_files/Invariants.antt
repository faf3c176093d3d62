use Rattle.std.proofs.Common.{◌≡◌, All, take}
use Rattle.tree_core.specs.declared.changes.Creation.{Creation}
use Rattle.tree_core.specs.FileTree.{IsFile}
use Rattle.tree_core.specs.History.{current_tree}
use Rattle.edit_words.specs.WellFormed.{IsFileFor}
use Rattle.asked_changes.proofs.files.all_have_files.Given as goal

abbrev pub invariant-loop-creation : goal.invariant-loop-creation
invariant-loop-creation g l =
    let T = g.T.Tree in record {
      files : T.Tells → All (λ (c : Creation). IsFileFor (IsFile (current_tree (T.history l.fn.tree))) c.what) (take l.creation-index l.creations);
      looked : T.Tells → T.history l.tree ≡ T.history l.fn.tree;
    }
