-- Where groups begin and end.
use Rattle.std.specs.Prelude.{ℕ, List, [], length, take, get_or}
use Rattle.tree_core.specs.FileTree.{FileTree}
use Rattle.tree_core.specs.History.{History}
use Rattle.tree_core.specs.Runs.{then_all, FailedIn}
use Rattle.commit_steps.specs.declared.step.Step.{Step}
use Rattle.step_trees.specs.Groups.{joined}
use Rattle.commit_states.specs.Calls.{group_calls, calls_from}
use Rattle.commit_calls.specs.declared.group.Stopped.{Stopped}

-- the cut at which group number i begins
abbrev pub cut_at : ℕ → List (List Step) → ℕ
cut_at i gs = length (joined (take i gs))

-- group number i
abbrev pub group_at : ℕ → List (List Step) → List Step
group_at i gs = get_or gs i []

-- The groups before this one were done, and a call of this one failed.
abbrev pub StoppedIn : List (List Step) → Stopped → History → History → FileTree → Type 0
StoppedIn gs s old new before = FailedIn (group_calls (cut_at s.group gs) (group_at s.group gs)) (then_all old (calls_from 0 (take s.group gs))) new before s.first
