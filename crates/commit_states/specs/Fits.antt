-- What a commit needs of the tree that it begins with.
use Rattle.std.specs.Prelude.{ℕ, ◌+◌, ◌≤◌, ◌<◌, ◌^◌, List, length}
use Rattle.tree_core.specs.declared.changes.Fresh.{Fresh}
use Rattle.tree_core.specs.declared.node.Node.{Node}
use Rattle.tree_core.specs.FileTree.{FileTree, IsAbsent}
use Rattle.commit_steps.specs.declared.step.Step.{Step}
use Rattle.commit_steps.specs.Staging.{staging}
use Rattle.step_trees.specs.Entries.{rest}
use Rattle.step_trees.specs.Steps.{after}
use Rattle.step_trees.specs.Leads.{start, at_place, Leads}
use Rattle.commit_states.specs.declared.held.Held.{Held}
use Rattle.commit_states.specs.Interrupted.{IsWritten}
use Rattle.commit_states.specs.Calls.{fresh_nodes, AreLawfulFresh, Cleans}

-- Steps, fresh entries, journal and what is put aside, for a commit from old to new. `next` is the number of the next file.
pub record Fits (steps : List Step) (fs : List Fresh) (journal : List ℕ) (hs : List Held) (new : FileTree) (old : FileTree) (next : ℕ) : Type 0 where
  pub absent : IsAbsent old staging
  pub lawful : AreLawfulFresh old fs
  pub few_fresh : length fs ≤ 2 ^ 32
  pub few_steps : length steps < 2 ^ 32
  pub journal_is : IsWritten steps journal
  -- `at-0` takes the first number
  pub leads : Leads steps old new (fresh_nodes old (next + 1) fs)
  pub cleans : Cleans hs (at_place steps old (fresh_nodes old (next + 1) fs) (length steps))

-- the tree that the steps lead to
abbrev pub edited_by : List Step → FileTree → List Node → FileTree
edited_by steps old fresh = rest (after steps (start old fresh))
