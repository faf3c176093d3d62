-- The calls of a way back from `plan`, as looks tell them on the way. Cuts are numbered: with number k the group of this number begins,
-- and the last one is the end of the steps.
use Rattle.std.specs.Prelude.{ℕ, ◌+◌, ◌==◌, suc, zero, List, [], ◌∷◌, ◌++◌, length, is_some, if◌then◌else◌}
use Rattle.std.specs.FinMap.{get}
use Rattle.dired_text.specs.Paths.{Names}
use Rattle.commit_calls.specs.Cuts.{cut_at, group_at}
use Rattle.commit_states.specs.Calls.{end_calls, unmarked_calls}
use Rattle.commit_steps.specs.declared.step.Step.{Step}
use Rattle.commit_steps.specs.Staging.{staged, at_marker, back_marker}
use Rattle.step_looks.specs.Undoing.{any_goes_back, to_undo}
use Rattle.step_trees.specs.Groups.{groups}
use Rattle.tree_core.specs.declared.changes.Fresh.{Fresh}
use Rattle.tree_core.specs.declared.node.Change.{Change}
use Rattle.tree_core.specs.declared.node.Change.TheVariants as call
use Rattle.tree_core.specs.FileTree.{FileTree}
use Rattle.tree_core.specs.History.{History, Then, current_tree}
use Rattle.tree_core.specs.Runs.{then_all}

-- the path of the marker at cut number k, and on the way back
abbrev pub at_cut : List Step → ℕ → Names
at_cut steps k = staged (at_marker (cut_at k (groups steps)))

abbrev pub back_at_cut : List Step → ℕ → Names
back_at_cut steps k = staged (back_marker (cut_at k (groups steps)))

-- Where a call of group number k failed, the marker stands at its cut or at the next one. At the last cut there is no group.
abbrev pub marked_cut : List Step → ℕ → FileTree → ℕ
marked_cut steps k t = if k == length (groups steps) then k else if is_some (get t (at_cut steps k)) then k else k + 1

-- the marker turns round at this cut, unless some of the group behind it was done
abbrev pub turn_cut : List Step → ℕ → FileTree → ℕ
turn_cut steps k t = if any_goes_back (group_at k (groups steps)) t then k + 1 else k

-- what was done of group number k is undone, and the marker moves to its cut
abbrev pub undone_group : List Step → ℕ → FileTree → List Change
undone_group steps k t = unmarked_calls (to_undo (group_at k (groups steps)) t) (back_at_cut steps (k + 1)) (back_at_cut steps k)

-- the groups before cut number k, the last one first
abbrev pub undone_groups : List Step → ℕ → History → List Change
undone_groups steps zero h = []
undone_groups steps (suc k) h = undone_group steps k (current_tree h) ++ undone_groups steps k (then_all h (undone_group steps k (current_tree h)))

-- the marker turns round
abbrev pub turned_marker : List Step → ℕ → FileTree → List Change
turned_marker steps k t = call.Rename (at_cut steps k) (back_at_cut steps (turn_cut steps k t)) ∷ call.Sync ∷ []

-- from cut number k, where the marker stands
abbrev pub way_from : List Step → List Fresh → ℕ → History → List Change
way_from steps fs k h =
    turned_marker steps k (current_tree h)
    ++ (undone_groups steps (turn_cut steps k (current_tree h)) (then_all h (turned_marker steps k (current_tree h))) ++ end_calls fs)

-- the whole way back, where a call of group number k failed
abbrev pub way_back : List Step → List Fresh → ℕ → History → List Change
way_back steps fs k h = call.Sync ∷ way_from steps fs (marked_cut steps k (current_tree h)) (Then h call.Sync)
