-- What a commit takes with it, made before its first changing call.
use Rattle.std.specs.Prelude.{◌≡◌, ℕ, List, [], ◌∷◌, ◌++◌, length}
use Rattle.std.specs.List.{AllByRecursion}
use Rattle.commit_calls.specs.Paths.{ArePaths, at_marker_paths, back_marker_paths, fresh_entry_paths, held_entry_paths}
use Rattle.commit_plan.specs.Promises.{IsOldTree}
use Rattle.commit_run.specs.declared.prepared.Prepared.{Prepared}
use Rattle.commit_states.specs.Fits.{Fits}
use Rattle.commit_steps.specs.Staging.{staged, at_marker, new_journal}
use Rattle.dired_text.specs.Paths.{Names}
use Rattle.edit_check.specs.declared.checked.Checked.{Checked}
use Rattle.edit_check.specs.StandFor.{changes_in}
use Rattle.edit_words.specs.Edited.{edited}
use Rattle.edit_words.specs.Rows.{rows}
use Rattle.plan_fits.specs.Laws.{AreBelow, made_for}
use Rattle.step_cuts.specs.Cuts.{ends_of}
use Rattle.step_looks.specs.Looks.{AreParents}
use Rattle.step_trees.specs.Groups.{groups}
use Rattle.step_trees.specs.Steps.{IsStep}
use Rattle.tree_core.specs.FileTree.{FileTree}

-- What may stand in the staging directory while it is filled, by the number of the fresh entries. The journal is the last.
abbrev pub early_paths : ℕ → List Names
early_paths count = staged (at_marker 0) ∷ fresh_entry_paths count ++ staged new_journal ∷ []

-- All paths and places are those of the steps, the fresh entries and what is put aside. The places begin with 0.
pub record IsPrepared (p : Prepared) : Type 0 where
  pub steps : AllByRecursion IsStep p.steps
  pub ends : p.ends.items ≡ ends_of 0 (groups p.steps)
  pub paths : ArePaths p.paths
  pub at : p.at_markers.items ≡ at_marker_paths (0 ∷ p.ends.items)
  pub back : p.back_markers.items ≡ back_marker_paths (0 ∷ p.ends.items)
  pub fresh : p.fresh_paths.items ≡ fresh_entry_paths (length p.fresh.items)
  pub held : p.held_paths.items ≡ held_entry_paths p.held.items
  pub early : p.early.items ≡ early_paths (length p.fresh.items)
  pub parents : AreParents p.steps p.parents.items

-- It fits a commit from each tree that the check stands for, whatever number the next file gets.
abbrev pub FitsTrees : Checked → Prepared → Type 0
FitsTrees checked p =
    (t : FileTree) (next : ℕ) → IsOldTree checked t → AreBelow t next
    → Fits p.steps p.fresh.items p.journal p.held.items (edited t (rows (changes_in checked)) (made_for t (changes_in checked) next)) t next
