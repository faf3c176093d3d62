-- Steps undone as looks tell, up to the first of which a look tells neither.
use Rattle.std.specs.Prelude.{ℕ, ◌+◌, List, [], ◌∷◌, ◌++◌, length, Option, Some, None}
use Rattle.tree_core.specs.FileTree.{FileTree, done}
use Rattle.commit_steps.specs.declared.step.Step.{Step}
use Rattle.step_trees.specs.Steps.{undo_of}
use Rattle.step_looks.specs.Looks.{look_back_of}
use Rattle.step_looks.specs.Redoing.{by_look}

-- Of these steps, which come the last one first, those of which a look tells that they were done and can be undone, in the tree with
-- the later ones undone. They come in the order of the steps.
abbrev pub to_undo_strictly : List Step → FileTree → List Step
to_undo_strictly [] t = []
to_undo_strictly (s ∷ earlier) t = by_look (look_back_of s t) (to_undo_strictly earlier t) (to_undo_strictly earlier (done (undo_of s) 0 t) ++ s ∷ []) []

-- the number of the first of which a look tells neither, where the earliest step has the number `from`
abbrev pub strange_back : ℕ → List Step → FileTree → Option ℕ
strange_back from [] t = None
strange_back from (s ∷ earlier) t = by_look (look_back_of s t) (strange_back from earlier t) (strange_back from earlier (done (undo_of s) 0 t)) (Some (from + length earlier))

-- the number of the first of these, which are numbered from k on, of which a look tells neither that it can be undone nor that it is
-- still to be done
abbrev pub strange_look : ℕ → List Step → FileTree → Option ℕ
strange_look k [] t = None
strange_look k (s ∷ steps) t = by_look (look_back_of s t) (strange_look (k + 1) steps t) (strange_look (k + 1) steps t) (Some k)
