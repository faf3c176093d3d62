-- Laws of plans: their steps in another order, as statements.
use Rattle.std.specs.Prelude.{ℕ, ◌+◌, ◌≤◌, List, length}
use Rattle.commit_journal.specs.declared.version.Version.TheVariants.{Two}
use Rattle.commit_journal.specs.Spelling.{CanEncode, journal_text}
use Rattle.commit_states.specs.declared.held.Held.{Held}
use Rattle.commit_states.specs.Calls.{fresh_nodes}
use Rattle.commit_states.specs.Fits.{Fits}
use Rattle.commit_states.specs.Interrupted.{IsWritten}
use Rattle.commit_steps.specs.declared.step.Step.{Step}
use Rattle.edit_check.specs.declared.checked.Checked.{Checked}
use Rattle.edit_check.specs.StandFor.{IsChecked, changes_in, found_in}
use Rattle.edit_words.specs.Edited.{AreMadeFor}
use Rattle.edit_words.specs.Rows.{rows}
use Rattle.edit_words.specs.Sight.{sight_of}
use Rattle.plan_journals.specs.Laws.{max_journal_bytes}
use Rattle.plan_laws.specs.Laws.{ArePlanned, HaveNames}
use Rattle.plan_moves.specs.Plan.{IsPlan}
use Rattle.step_layers.specs.Order.{KeepsOrder, SetOnce}
use Rattle.step_trees.specs.Leads.{start}
use Rattle.tree_core.specs.declared.changes.Changes.{Changes}
use Rattle.tree_core.specs.declared.changes.Fresh.{Fresh}
use Rattle.tree_core.specs.declared.node.Node.{Node}
use Rattle.tree_core.specs.FileTree.{FileTree}

-- no two steps of a plan set the mode of one file
abbrev pub PlansSetOnce : Type 0
PlansSetOnce =
    (t : FileTree) (changes : Changes) (made : List Node) (steps : List Step) → ArePlanned t changes → HaveNames (rows changes) → AreMadeFor t changes made
    → IsPlan (sight_of t) (rows changes) steps → SetOnce (start t made) steps

-- A journal can spell the steps of each plan of checked changes in each order that keeps that of related steps, and isn't too long to
-- be read.
abbrev pub OrdersCanBeSpelled : Type 0
OrdersCanBeSpelled =
    (checked : Checked) (steps others : List Step) → IsChecked checked → IsPlan (found_in checked) (rows (changes_in checked)) steps → KeepsOrder steps others
    → CanEncode others × (length (journal_text Two others) ≤ max_journal_bytes)

-- Where steps, no two of which set the mode of one file, fit a commit, they do so in each such order, with a journal of that order.
abbrev pub OrdersFit : Type 0
OrdersFit =
    (steps others : List Step) (fs : List Fresh) (journal other : List ℕ) (hs : List Held) (new old : FileTree) (next : ℕ) → Fits steps fs journal hs new old next
    → SetOnce (start old (fresh_nodes old (next + 1) fs)) steps → KeepsOrder steps others → IsWritten others other → Fits others fs other hs new old next
