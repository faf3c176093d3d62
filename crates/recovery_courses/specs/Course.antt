-- What a recovery does from a history on.
use Rattle.std.specs.Prelude.{◌≡◌, ℕ, List, [], ◌++◌, Option, Some, None, Result, IfOk}
use Rattle.step_looks.specs.Undoing.{RanOrLooked}
use Rattle.tree_core.specs.declared.node.CallName.{CallName}
use Rattle.tree_core.specs.declared.node.Change.{Change}
use Rattle.tree_core.specs.FileTree.{FileTree}
use Rattle.tree_core.specs.History.{History}
use Rattle.tree_core.specs.Runs.{then_all}

-- The changing calls up to the end, or up to something strange, with the number that is told of it.
pub record Course : Type 0 where
  pub calls : List Change
  pub strange : Option ℕ

-- these calls, and nothing strange
abbrev pub these : List Change → Course
these calls = record { calls = calls; strange = None }

-- no call, and something strange
abbrev pub strange_at : ℕ → Course
strange_at k = record { calls = []; strange = Some k }

-- Behind these calls it goes on, unless something strange was found.
abbrev pub going_on : List Change → Option ℕ → Course → Course
going_on calls None next = record { calls = calls ++ next.calls; strange = next.strange }
going_on calls (Some k) next = record { calls = calls; strange = Some k }

-- one from a history on, and behind it the next
abbrev pub and_then : Course → History → (History → Course) → Course
and_then course h next = going_on course.calls course.strange (next (then_all h course.calls))

-- Code that follows a course: its calls, with looks between them, and at the end what was strange.
pub record Follows (course : Course) (old new : History) (before behind : FileTree) (result : Result (Option ℕ) CallName) : Type 0 where
  pub ran : RanOrLooked course.calls old new before behind result
  pub strange : IfOk result (λ strange. strange ≡ course.strange)
