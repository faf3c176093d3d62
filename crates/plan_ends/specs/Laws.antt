-- Laws of plans: where the parts of a plan begin and end.
use Rattle.std.specs.Prelude.{◌≡◌, ℕ, List, [], ◌++◌, map, length, filter}
use Rattle.dired_text.specs.Paths.{Names}
use Rattle.commit_steps.specs.declared.step.Step.{Step}
use Rattle.commit_steps.specs.declared.step.Step.TheVariants.{MakeDir}
use Rattle.tree_core.specs.declared.node.Node.{Node}
use Rattle.tree_core.specs.declared.changes.Changes.{Changes}
use Rattle.tree_core.specs.FileTree.{FileTree}
use Rattle.edit_words.specs.declared.row.Row.{Row}
use Rattle.edit_words.specs.Place.{place}
use Rattle.edit_words.specs.Rows.{rows, is_kept, route_of}
use Rattle.edit_words.specs.Sight.{sight_of}
use Rattle.edit_words.specs.Edited.{IsPlaced, AreMadeFor, added_by, edited, is_fresh}
use Rattle.edit_rules.specs.Plans.{ModeChange, AreMissing, AreModes}
use Rattle.plan_laws.specs.Laws.{ArePlanned, HaveNames, NoneWaits, IsPutAside}
use Rattle.plan_moves.specs.Moves.{Moves, Spots, fresh_spots}
use Rattle.plan_moves.specs.Plan.{IsPlan, held_paths, holds, mode_step}
use Rattle.plan_moves.specs.SoFar.{Invariant, IsSoFar, same_node}
use Rattle.plan_moves.specs.Waiting.{Waiting, waiting}
use Rattle.step_trees.specs.Entries.{rest, IsHeld, HoldsOnly}
use Rattle.step_trees.specs.Leads.{start, HoldsEntries, Ends, Leads, SetOthers}
use Rattle.step_trees.specs.Steps.{after}
use Rattle.plan_ends.specs.Runs.{IsRun}

-- ---- the end of the moves

-- The tree without the staging directory is the old one placed as in the edited tree, but for the modes; and the staging directory
-- holds only what is put aside.
pub record IsMoved (t : FileTree) (rs : List Row) (made : List Node) (now : FileTree) : Type 0 where
  pub placed : IsPlaced (added_by t rs made) (is_kept rs) (place (route_of rs)) same_node t (rest now)
  pub only : HoldsOnly now (IsHeld now)

-- one entry for each row that makes one
abbrev pub AreAsMany : List Row → List Node → Type 0
AreAsMany rs made = length made ≡ length (filter is_fresh rs)

-- where nothing waits any longer
abbrev pub MovesEndInPlace : Type 0
MovesEndInPlace =
    (t : FileTree) (changes : Changes) (made : List Node) (spots : Spots) (now : FileTree) → ArePlanned t changes → AreAsMany (rows changes) made
    → IsSoFar t (rows changes) made spots [] now → IsMoved t (rows changes) made now

-- ---- the modes

-- The steps can be done one behind the other, no two set the mode of one file, and the last tree is the edited one.
pub record AreLastSteps (now new : FileTree) (steps : List Step) : Type 0 where
  pub run : IsRun now steps
  pub others : SetOthers now steps
  pub ends : Ends new (after steps now)

-- from the end of the moves the steps that change modes do so
abbrev pub ModesLead : Type 0
ModesLead =
    (t : FileTree) (changes : Changes) (made : List Node) (now : FileTree) (ms : List ModeChange) → ArePlanned t changes → AreMadeFor t changes made → HoldsEntries now
    → IsMoved t (rows changes) made now → AreModes (sight_of t) (rows changes) ms → AreLastSteps now (edited t (rows changes) made) (map mode_step ms)

-- ---- the whole

-- what is put aside, and the directories that are made
abbrev pub first_steps : FileTree → List Row → List Names → List Step
first_steps t rs dirs = holds 0 (held_paths (sight_of t) rs) ++ map MakeDir dirs

-- The first steps can be done one behind the other, and behind them no change is carried out yet.
pub record AreFirstSteps (t : FileTree) (rs : List Row) (made : List Node) (steps : List Step) : Type 0 where
  pub run : IsRun (start t made) steps
  pub shown : IsSoFar t rs made (fresh_spots 0 rs) (waiting rs) (after steps (start t made))

-- The old tree with the entries that are made in its staging directory is a tree, and holds only them.
pub record StartsWell (t : FileTree) (rs : List Row) (made : List Node) : Type 0 where
  pub put : IsPutAside t rs made [] (start t made)
  pub holds : HoldsEntries (start t made)

abbrev pub EachStartsWell : Type 0
EachStartsWell = (t : FileTree) (changes : Changes) (made : List Node) → ArePlanned t changes → AreMadeFor t changes made → StartsWell t (rows changes) made

abbrev pub FirstStepsLead : Type 0
FirstStepsLead =
    (t : FileTree) (changes : Changes) (made : List Node) (dirs : List Names) → ArePlanned t changes → HaveNames (rows changes) → AreMadeFor t changes made
    → AreMissing (sight_of t) (rows changes) dirs → AreFirstSteps t (rows changes) made (first_steps t (rows changes) dirs)

-- From between two moves all further moves can be done one behind the other, and behind them nothing waits.
abbrev pub MovesRun : Type 0
MovesRun =
    (t now : FileTree) (changes : Changes) (made : List Node) (n : ℕ) (spots : Spots) (ws : List Waiting) (moves : List Step) → ArePlanned t changes → HaveNames (rows changes) → AreAsMany (rows changes) made
    → Invariant t (rows changes) made n spots ws now → HoldsEntries now → Moves n spots ws moves → IsRun now moves × NoneWaits t (rows changes) made (after moves now)

-- Each plan leads from the old tree to the edited one.
abbrev pub PlansLead : Type 0
PlansLead =
    (t : FileTree) (changes : Changes) (made : List Node) (steps : List Step) → ArePlanned t changes → HaveNames (rows changes) → AreMadeFor t changes made
    → IsPlan (sight_of t) (rows changes) steps → Leads steps t (edited t (rows changes) made) made
