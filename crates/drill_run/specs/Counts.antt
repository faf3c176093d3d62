-- The counts of a drill.
use Rattle.std.specs.Prelude.{◌≡◌, ◌≤◌, ℕ, Bool, true, false, length, map, count_by}
use Rattle.dired_text.specs.Paths.{Names, path_bytes, max_path_bytes}
use Rattle.tree_core.specs.FileTree.{FileTree, Stands}
use Rattle.edit_check.specs.declared.checked.Checked.{Checked}
use Rattle.edit_check.specs.StandFor.{StandsFor, changes_in}
use Rattle.edit_words.specs.Counting.{counts_of as counts_in}
use Rattle.edit_words.specs.Rows.{rows}
use Rattle.edit_words.specs.Sight.{sight_of}
use Rattle.plan_moves.specs.Plan.{step_count}
use Rattle.plan_moves.specs.Waiting.{knots, waiting}
use Rattle.commit_plan.specs.Promises.{missing_once}
use Rattle.find_listing.specs.Finds.{paths_of}
use Rattle.drill_tree.specs.declared.group.Group.{Group}
use Rattle.drill_tree.specs.declared.group.Group.TheVariants.{Chain, Cycle, Nested, Replacing, Swallowing}
use Rattle.drill_tree.specs.Groups.{below, group_of}
use Rattle.drill_tree.specs.Drill.{IsDrillTree, drill_edits}
use Rattle.drill_run.specs.declared.counts.DrillCounts.{DrillCounts}

-- how many paths there are but the root
abbrev pub entry_count : FileTree → ℕ
entry_count t = length (paths_of t)

abbrev pub is_cycle : Group → Bool
is_cycle Chain = false
is_cycle (Cycle len) = true
is_cycle Nested = false
is_cycle Replacing = false
is_cycle Swallowing = false

abbrev pub cycle_count : ℕ → ℕ
cycle_count n = count_by is_cycle (map group_of (below n))

-- of a drill of so many groups that found this tree, and left so many entries
abbrev pub counts_with : ℕ → FileTree → ℕ → DrillCounts
counts_with n old left =
    let sight = sight_of old in
    let rs = rows (drill_edits n) in
    record {
      entries = entry_count old;
      edits = (counts_in sight rs).renamed;
      cycles = cycle_count n;
      replaced = (counts_in sight rs).replaced;
      temporaries = knots (waiting rs);
      steps = step_count sight rs (missing_once sight rs);
      left = left;
    }

-- of the tree that it found, of its edits and their plan, and of the tree that it left
abbrev pub counts_of : ℕ → FileTree → FileTree → DrillCounts
counts_of n old new = counts_with n old (entry_count new)

-- No path has more bytes than a call can look at.
abbrev pub HasShortPaths : FileTree → Type 0
HasShortPaths t = (p : Names) → Stands t p → path_bytes p ≤ max_path_bytes

-- The check stands for a tree of the drill.
abbrev pub IsCheckedDrill : ℕ → Checked → Type 0
IsCheckedDrill n checked = (t : FileTree) × IsDrillTree n t × StandsFor checked t × (changes_in checked ≡ drill_edits n)
