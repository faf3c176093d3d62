-- What a commit promises in a tree that tells what it contains.
use Rattle.std.specs.Prelude.{◌≡◌, List, length}
use Rattle.commit_run.specs.declared.end.CommitEnd.{CommitEnd}
use Rattle.commit_run.specs.declared.end.CommitEnd.TheVariants as end
use Rattle.commit_run.specs.Ends.{Ended, Run, StoodAt, old_tree}
use Rattle.commit_steps.specs.declared.step.Step.{Step}
use Rattle.edit_words.specs.Edited.{edited}
use Rattle.edit_words.specs.Rows.{rows}
use Rattle.edit_words.specs.Sight.{sight_of}
use Rattle.commit_plan.specs.Promises.{missing_once}
use Rattle.plan_fits.specs.Laws.{made_for}
use Rattle.plan_moves.specs.Plan.{step_count}
use Rattle.step_trees.specs.Leads.{Leads}
use Rattle.tree_core.specs.declared.changes.Changes.{Changes}
use Rattle.tree_core.specs.FileTree.{FileTree}
use Rattle.tree_core.specs.History.{History, next_number}

-- the commit of these changes by these steps
abbrev pub run_of : Changes → History → List Step → Run
run_of changes begun steps =
    record {
      steps = steps;
      begun = begun;
      new = edited (old_tree begun) (rows changes) (made_for (old_tree begun) changes (next_number begun));
      made = made_for (old_tree begun) changes (next_number begun);
    }

-- One list of steps leads from the old tree to the edited one and has as many as the changes need; a crash at any moment leaves a tree
-- that may stand where its commit was stopped; and so the commit ended, with its last failed call where it stood.
pub record IsCommit (changes : Changes) (begun now : History) (before : FileTree) (ended : CommitEnd) : Type 0 where
  pub steps : List Step
  pub leads : Leads steps (old_tree begun) (run_of changes begun steps).new (run_of changes begun steps).made
  pub count : length steps ≡ step_count (sight_of (old_tree begun)) (rows changes) (missing_once (sight_of (old_tree begun)) (rows changes))
  pub ends : Ended (run_of changes begun steps) now ended
  pub place : StoodAt (run_of changes begun steps) before ended

-- At want of memory nothing was done.
abbrev pub Commits : Changes → History → History → FileTree → CommitEnd → Type 0
Commits changes begun now before end.Memory = now ≡ begun
Commits changes begun now before end.Done = IsCommit changes begun now before end.Done
Commits changes begun now before (end.TreeFault first) = IsCommit changes begun now before (end.TreeFault first)
Commits changes begun now before (end.RolledBack first) = IsCommit changes begun now before (end.RolledBack first)
Commits changes begun now before (end.Unfinished first second) = IsCommit changes begun now before (end.Unfinished first second)
Commits changes begun now before (end.Unclean first) = IsCommit changes begun now before (end.Unclean first)
