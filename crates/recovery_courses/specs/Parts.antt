-- Recovery among the steps. A part is a group, or what lies between a marker within a group and the next cut or the last one.
use Rattle.std.specs.Prelude.{ℕ, ◌+◌, ◌-◌, ◌==◌, nat_lt, List, [], ◌∷◌, length, reverse, if◌then◌else◌}
use Rattle.commit_calls.specs.Parts.{synced_rename_calls}
use Rattle.commit_states.specs.Calls.{do_calls, undo_calls, turn_calls}
use Rattle.commit_steps.specs.declared.step.Step.{Step}
use Rattle.commit_steps.specs.Staging.{staged, at_marker, back_marker}
use Rattle.recovery_courses.specs.Course.{Course, these, going_on, and_then}
use Rattle.step_looks.specs.Redoing.{to_redo, strange_redo}
use Rattle.step_looks.specs.Strictly.{to_undo_strictly, strange_back, strange_look}
use Rattle.step_looks.specs.Undoing.{any_goes_back}
use Rattle.step_trees.specs.Groups.{groups, to_next_cut, whole_behind, from_last_cut, whole_before}
use Rattle.tree_core.specs.FileTree.{FileTree}
use Rattle.tree_core.specs.History.{History, current_tree}

-- ---- forward

-- the steps of a part that a look tells are still to be done, from place k on, and then the marker
abbrev pub redone_part : ℕ → List Step → History → Course
redone_part k part h =
    going_on (do_calls (to_redo part (current_tree h))) (strange_redo k part (current_tree h))
    (these (synced_rename_calls (staged (at_marker k)) (staged (at_marker (k + length part)))))

-- parts one after another, from place k on
abbrev pub redone_parts : ℕ → List (List Step) → History → Course
redone_parts k [] h = these []
redone_parts k (part ∷ parts) h = and_then (redone_part k part h) h (redone_parts (k + length part) parts)

-- the parts from place m on
abbrev pub parts_behind : List Step → ℕ → List (List Step)
parts_behind steps m = if nat_lt m (length steps) then to_next_cut m (groups steps) ∷ whole_behind m (groups steps) else []

-- ---- back

-- the steps of a part from place k on that a look tells can be undone, the last one first, and then the marker
abbrev pub undone_part : ℕ → List Step → History → Course
undone_part k part h =
    going_on (undo_calls (to_undo_strictly (reverse part) (current_tree h))) (strange_back k (reverse part) (current_tree h))
    (these (synced_rename_calls (staged (back_marker (k + length part))) (staged (back_marker k))))

-- parts from place k on, the last one first
abbrev pub undone_parts : ℕ → List (List Step) → History → Course
undone_parts k [] h = these []
undone_parts k (part ∷ parts) h = and_then (undone_parts (k + length part) parts h) h (undone_part k part)

-- from place m to the first: the part from the last cut before m, and then the groups before that cut
abbrev pub undone_from : List Step → ℕ → History → Course
undone_from steps m h =
    if m == 0
    then these []
    else and_then (undone_part (m - length (from_last_cut m (groups steps))) (from_last_cut m (groups steps)) h) h
    (undone_parts 0 (whole_before (m - length (from_last_cut m (groups steps))) (groups steps)))

-- ---- the turn

-- where the marker turns round: at the next cut behind place m where a step before that cut was done, else at m
abbrev pub turning_place : List Step → ℕ → FileTree → ℕ
turning_place steps m t = if any_goes_back (to_next_cut m (groups steps)) t then m + length (to_next_cut m (groups steps)) else m

-- the marker turns round at this place, and so on back
abbrev pub turned_at : List Step → ℕ → ℕ → History → Course
turned_at steps m j h = and_then (these (turn_calls m j)) h (undone_from steps j)

-- The steps from place m to the next cut behind it are looked at first.
abbrev pub turned_from : List Step → ℕ → History → Course
turned_from steps m h =
    going_on [] (strange_look m (to_next_cut m (groups steps)) (current_tree h))
    (turned_at steps m (turning_place steps m (current_tree h)) h)
