-- What looks at a step tell, as tests.
use Rattle.std.specs.Prelude.{◌≡◌, ℕ, ◌==◌, Bool, true, false, not, ◌&&◌, List, [], ◌∷◌, map, Option, Some, None, is_some, if◌then◌else◌}
use Rattle.std.specs.FinMap.{get}
use Rattle.dired_text.specs.Paths.{Names, parent}
use Rattle.tree_core.specs.declared.node.Node.{Node}
use Rattle.tree_core.specs.declared.node.Node.TheVariants.{Dir, Link, File}
use Rattle.tree_core.specs.FileTree.{FileTree, is_dir_node}
use Rattle.tree_core.specs.Fields.{names_in}
use Rattle.commit_steps.specs.declared.step.Step.{Step}
use Rattle.commit_steps.specs.declared.step.Step.TheVariants.{MakeDir, Rename, Mode}
use Rattle.step_looks.specs.declared.parent_paths.Parents.{Parents}
use Rattle.step_looks.specs.declared.looking.Seen.{Seen}
use Rattle.step_looks.specs.declared.looking.Seen.TheVariants.{Before, After}

-- the directories in which the paths of a step stand
abbrev pub parents_of : Step → Parents
parents_of (MakeDir p) = record { first = parent p; last = parent p }
parents_of (Rename from to) = record { first = parent from; last = parent to }
parents_of (Mode p old new) = record { first = parent p; last = parent p }

-- each step has its own beside it
abbrev pub AreParents : List Step → List Parents → Type 0
AreParents steps parents = parents ≡ map parents_of steps

-- a file or a directory of this mode
abbrev pub is_of_mode : Option Node → ℕ → Bool
is_of_mode None mode = false
is_of_mode (Some (Dir m)) mode = m == mode
is_of_mode (Some (Link target)) mode = false
is_of_mode (Some (File number bytes m)) mode = m == mode

abbrev pub is_none_of : List (List ℕ) → Bool
is_none_of [] = true
is_none_of (name ∷ names) = false

-- a directory in which nothing stands
abbrev pub is_empty_dir : FileTree → Names → Bool
is_empty_dir t p = is_dir_node (get t p) && is_none_of (names_in t p)

-- the step is still to be done
abbrev pub is_before : Step → FileTree → Bool
is_before (MakeDir p) t = not (is_some (get t p)) && is_dir_node (get t (parent p))
is_before (Rename from to) t = (is_some (get t from) && not (is_some (get t to))) && is_dir_node (get t (parent to))
is_before (Mode p old new) t = is_of_mode (get t p) old

-- it was done
abbrev pub is_after : Step → FileTree → Bool
is_after (MakeDir p) t = is_dir_node (get t p)
is_after (Rename from to) t = (is_some (get t to) && not (is_some (get t from))) && is_dir_node (get t (parent from))
is_after (Mode p old new) t = is_of_mode (get t p) new

-- it was done and can be undone: a directory that it made is empty
abbrev pub can_go_back : Step → FileTree → Bool
can_go_back (MakeDir p) t = is_empty_dir t p
can_go_back (Rename from to) t = is_after (Rename from to) t
can_go_back (Mode p old new) t = is_after (Mode p old new) t

-- what a look answers
abbrev pub seen_by : Bool → Bool → Option Seen
seen_by before behind = if before then Some Before else if behind then Some After else None

abbrev pub look_of : Step → FileTree → Option Seen
look_of step t = seen_by (is_before step t) (is_after step t)

abbrev pub look_back_of : Step → FileTree → Option Seen
look_back_of step t = seen_by (is_before step t) (can_go_back step t)
