-- A plan of checked changes fits a commit, as a statement.
use Rattle.std.specs.Prelude.{◌≡◌, ℕ, ◌+◌, ◌<◌, ◌^◌, List, length, Some, IsTrue}
use Rattle.std.specs.FinMap.{get}
use Rattle.std.specs.List.{AllByRecursion}
use Rattle.std.specs.Str.{is_utf8}
use Rattle.dired_text.specs.Paths.{Names}
use Rattle.commit_steps.specs.declared.step.Step.{Step}
use Rattle.commit_states.specs.Calls.{fresh_nodes}
use Rattle.commit_states.specs.Fits.{Fits}
use Rattle.commit_states.specs.Interrupted.{IsWritten}
use Rattle.edit_words.specs.Edited.{asked_fresh, edited}
use Rattle.edit_words.specs.Rows.{rows}
use Rattle.edit_words.specs.Sight.{sight_of}
use Rattle.plan_fits.specs.HeldKinds.{held_of}
use Rattle.plan_laws.specs.Laws.{ArePlanned, HaveNames}
use Rattle.plan_moves.specs.Plan.{IsPlan}
use Rattle.tree_core.specs.declared.changes.Changes.{Changes}
use Rattle.tree_core.specs.declared.changes.Fresh.{Fresh}
use Rattle.tree_core.specs.declared.changes.Fresh.TheVariants as fresh
use Rattle.tree_core.specs.declared.node.Node.{Node}
use Rattle.tree_core.specs.declared.node.Node.TheVariants.{File}
use Rattle.tree_core.specs.FileTree.{FileTree}

-- the target of a link is UTF-8
abbrev pub HasText : Fresh → Type 0
HasText (fresh.Link target) = IsTrue (is_utf8 target)
HasText (fresh.File bytes mode) = Unit {0}
HasText (fresh.Same path) = Unit {0}

-- all file numbers are below this one
abbrev pub AreBelow : FileTree → ℕ → Type 0
AreBelow t next = (p : Names) (number : ℕ) (bytes : List ℕ) (mode : ℕ) → get t p ≡ Some (File number bytes mode) → number < next

-- the entries that a commit makes for the changes; `at-0` takes the first number
abbrev pub made_for : FileTree → Changes → ℕ → List Node
made_for t changes next = fresh_nodes t (next + 1) (asked_fresh changes)

-- What the changes ask for, the journal of a plan of theirs and what they put aside are such as a commit needs.
abbrev pub PlansFit : Type 0
PlansFit =
    (t : FileTree) (changes : Changes) (steps : List Step) (journal : List ℕ) (next : ℕ)
    → ArePlanned t changes → HaveNames (rows changes) → AllByRecursion HasText (asked_fresh changes) → AreBelow t next
    → IsPlan (sight_of t) (rows changes) steps → length steps < 2 ^ 32 → IsWritten steps journal
    → Fits steps (asked_fresh changes) journal (held_of (sight_of t) (rows changes)) (edited t (rows changes) (made_for t changes next)) t next
