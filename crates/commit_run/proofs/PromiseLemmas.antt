-- What the end of a commit of what was prepared says of the checked changes.
use Rattle.std.proofs.Common.{◌≡◌, ◌+◌, List, ap, subst}
use Rattle.commit_plan.specs.Promises.{AreCounted, IsOldTree}
use Rattle.commit_run.specs.declared.end.CommitEnd.{CommitEnd}
use Rattle.commit_run.specs.declared.end.CommitEnd.TheVariants as end
use Rattle.commit_run.specs.declared.prepared.Prepared.{Prepared}
use Rattle.commit_run.specs.Begun.{Begun, EndsRun, run_from}
use Rattle.commit_run.specs.Commits.{Commits, IsCommit, run_of}
use Rattle.commit_run.specs.Ends.{Run}
use Rattle.commit_run.specs.Preparing.{FitsTrees}
use Rattle.commit_states.specs.Calls.{fresh_nodes}
use Rattle.edit_check.specs.declared.checked.Checked.{Checked}
use Rattle.edit_check.specs.StandFor.{changes_in}
use Rattle.edit_words.specs.Edited.{asked_fresh, edited}
use Rattle.edit_words.specs.Rows.{rows}
use Rattle.plan_fits.specs.Laws.{made_for}
use Rattle.step_trees.specs.Leads.{Leads}
use Rattle.tree_core.specs.declared.changes.Fresh.{Fresh}
use Rattle.tree_core.specs.declared.node.Node.{Node}
use Rattle.tree_core.specs.FileTree.{FileTree}
use Rattle.tree_core.specs.History.{History, IsDurable, IsSound, current_tree, next_number}

module _ (checked : Checked) (p : Prepared) (fits : FitsTrees checked p) (o : History) (old : IsOldTree checked (current_tree o)) (durable : IsDurable o) (sound : IsSound o) where
  abbrev made : List Node
  made = made_for (current_tree o) (changes_in checked) (next_number o)

  -- the tree to which the changes lead
  abbrev pub edited_tree : FileTree
  edited_tree = edited (current_tree o) (rows (changes_in checked)) made

  pub begins : Begun p o edited_tree
  begins = record { durable = durable; sound = sound; fits = fits (current_tree o) (next_number o) old sound.above }

  module _ (fresh : p.fresh.items ≡ asked_fresh (changes_in checked)) where
    abbrev made_by : List Fresh → List Node
    made_by fs = fresh_nodes (current_tree o) (next_number o + 1) fs

    abbrev with_made : List Node → Run
    with_made nodes = record { steps = p.steps; begun = o; new = edited_tree; made = nodes }

    same_run : run_from p o edited_tree ≡ run_of (changes_in checked) o p.steps
    same_run = ap (λ (fs : List Fresh). with_made (made_by fs)) fresh

    leads : Leads p.steps (current_tree o) edited_tree made
    leads = subst (λ (fs : List Fresh). Leads p.steps (current_tree o) edited_tree (made_by fs)) fresh begins.fits.leads

    module _ (counted : AreCounted checked p.steps) (now : History) (before : FileTree) where
      is_commit : (ended : CommitEnd) → EndsRun (run_from p o edited_tree) now before ended → IsCommit (changes_in checked) o now before ended
      is_commit ended run =
          let as_asked = subst (λ (r : Run). EndsRun r now before ended) same_run run in
          record { steps = p.steps; leads = leads; count = counted (current_tree o) old.found; ends = as_asked.ends; place = as_asked.place }

      pub commits : (ended : CommitEnd) → EndsRun (run_from p o edited_tree) now before ended → Commits (changes_in checked) o now before ended
      commits end.Done run = is_commit end.Done run
      commits end.Memory run = run.ends.stands
      commits (end.TreeFault first) run = is_commit (end.TreeFault first) run
      commits (end.RolledBack first) run = is_commit (end.RolledBack first) run
      commits (end.Unfinished first second) run = is_commit (end.Unfinished first second) run
      commits (end.Unclean first) run = is_commit (end.Unclean first) run
