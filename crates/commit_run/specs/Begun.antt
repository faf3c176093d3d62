-- A commit of what was prepared, as it runs.
use Rattle.std.specs.Prelude.{◌≡◌, ◌+◌, [], ◌∷◌}
use Rattle.commit_run.specs.declared.end.CommitEnd.{CommitEnd}
use Rattle.commit_run.specs.declared.prepared.Prepared.{Prepared}
use Rattle.commit_run.specs.Ends.{Ended, Run, StoodAt}
use Rattle.commit_run.specs.Sealing.{sealed_rename}
use Rattle.commit_states.specs.Calls.{fresh_nodes}
use Rattle.commit_states.specs.Fits.{Fits}
use Rattle.commit_states.specs.Laws.{stepped_history}
use Rattle.tree_core.specs.declared.node.CallName.{CallName}
use Rattle.tree_core.specs.declared.node.Change.TheVariants.{Sync}
use Rattle.tree_core.specs.FileTree.{FileTree}
use Rattle.tree_core.specs.History.{History, Then, IsDurable, IsSound, current_tree, next_number}
use Rattle.tree_core.specs.Runs.{FailedIn}

-- It begins with this history, where nothing is pending, and leads to this tree.
pub record Begun (p : Prepared) (begun : History) (new : FileTree) : Type 0 where
  pub durable : IsDurable begun
  pub sound : IsSound begun
  pub fits : Fits p.steps p.fresh.items p.journal p.held.items new (current_tree begun) (next_number begun)

abbrev pub run_from : Prepared → History → FileTree → Run
run_from p begun new = record { steps = p.steps; begun = begun; new = new; made = fresh_nodes (current_tree begun) (next_number begun + 1) p.fresh.items }

-- how it ends, and where its last failed call stood
pub record EndsRun (run : Run) (now : History) (before : FileTree) (end : CommitEnd) : Type 0 where
  pub ends : Ended run now end
  pub place : StoodAt run before end

-- ---- how far it has come

-- behind the first sync
abbrev pub synced : History → History
synced begun = Then begun Sync

-- behind the last step
abbrev pub stepped : Prepared → History → History
stepped p begun = stepped_history p.steps p.fresh.items p.journal begun

-- A commit stands behind these calls.
abbrev pub StandsBehind : Prepared → (History → History) → History → Type 0
StandsBehind p behind now = (begun : History) × (new : FileTree) × Begun p begun new × (now ≡ behind begun)

-- Behind the calls that lead from its first history to this one it ends so.
abbrev pub EndsFrom : Prepared → (History → History) → History → History → FileTree → CommitEnd → Type 0
EndsFrom p behind old now before end = (begun : History) (new : FileTree) → Begun p begun new → old ≡ behind begun → EndsRun (run_from p begun new) now before end

-- The rename that seals its journal failed, with this name.
abbrev pub FailedAtSeal : Prepared → History → CallName → History → FileTree → Type 0
FailedAtSeal p begun first now before = FailedIn (sealed_rename ∷ []) (stepped p begun) now before first

abbrev pub StandsAtSeal : Prepared → CallName → History → FileTree → Type 0
StandsAtSeal p first now before = (begun : History) × (new : FileTree) × Begun p begun new × FailedAtSeal p begun first now before

-- From there it ends so.
abbrev pub EndsFromSeal : Prepared → CallName → History → FileTree → History → FileTree → CommitEnd → Type 0
EndsFromSeal p first old old_before now before end =
    (begun : History) (new : FileTree) → Begun p begun new → FailedAtSeal p begun first old old_before → EndsRun (run_from p begun new) now before end
