-- Laws: the steps of a plan fit a journal, and a journal can spell them.
use Rattle.std.specs.Prelude.{◌≡◌, ℕ, ◌+◌, ◌*◌, ◌≤◌, ◌<◌, ◌^◌, List, length, None}
use Rattle.tree_core.specs.declared.changes.Changes.{Changes}
use Rattle.tree_core.specs.declared.changes.Confirmed.{Confirmed}
use Rattle.edit_check.specs.declared.checked.Checked.{Checked}
use Rattle.edit_check.specs.StandFor.{IsChecked, changes_in, found_in}
use Rattle.edit_words.specs.declared.row.Row.{Row}
use Rattle.edit_words.specs.Refusals.{changed_bytes, refusal}
use Rattle.edit_words.specs.Rows.{rows}
use Rattle.edit_words.specs.Sight.{Sight}
use Rattle.edit_words.specs.WellFormed.{AreAsked}
use Rattle.commit_steps.specs.declared.step.Step.{Step}
use Rattle.commit_steps.specs.Steps.{all_bytes}
use Rattle.commit_journal.specs.declared.version.Version.TheVariants.{Two}
use Rattle.commit_journal.specs.Grammar.{max_all_bytes}
use Rattle.commit_journal.specs.Spelling.{CanEncode, journal_text}
use Rattle.plan_moves.specs.Plan.{IsPlan}

-- the most bytes of a journal
abbrev pub max_journal_bytes : ℕ
max_journal_bytes = 1_073_741_824

-- The paths of the steps have at most twice as many bytes as the paths of the changes, and 104 more for each change: four entries of
-- the staging directory. So a journal of version 2 takes them, which has fewer than 2^32 steps, and isn't too long.
pub record FitsAJournal (sight : Sight) (rs : List Row) (steps : List Step) : Type 0 where
  pub bytes : all_bytes steps ≤ 2 * changed_bytes sight rs + 104 * length rs
  pub within : all_bytes steps ≤ max_all_bytes
  pub few : length steps < 2 ^ 32
  pub short : length (journal_text Two steps) ≤ max_journal_bytes

-- each plan of changes that can be asked for and aren't refused fits a journal
abbrev pub PlansFitAJournal : Type 0
PlansFitAJournal =
    (sight : Sight) (confirmed : Confirmed) (changes : Changes) (steps : List Step) → AreAsked changes → refusal sight confirmed (rows changes) ≡ None
    → IsPlan sight (rows changes) steps → FitsAJournal sight (rows changes) steps

-- a journal can spell each step of each plan of checked changes, and takes all of them, whatever the tree told
abbrev pub PlansCanBeSpelled : Type 0
PlansCanBeSpelled =
    (checked : Checked) (steps : List Step) → IsChecked checked → IsPlan (found_in checked) (rows (changes_in checked)) steps → CanEncode steps
