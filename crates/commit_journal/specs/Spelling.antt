-- The one text of steps in each version.
use Rattle.std.specs.Prelude.{ℕ, ◌-◌, ◌<◌, ◌≤◌, ◌^◌, List, [], ◌∷◌, ◌++◌, length, drop}
use Rattle.std.specs.List.{AllByRecursion}
use Rattle.dired_text.specs.Paths.{Names, joined}
use Rattle.commit_steps.specs.declared.step.Step.{Step}
use Rattle.commit_steps.specs.declared.step.Step.TheVariants.{MakeDir, Rename, Mode}
use Rattle.commit_steps.specs.Steps.{HasPaths, IsLawfulStep, first_path, all_bytes}
use Rattle.commit_journal.specs.declared.version.Version.{Version}
use Rattle.commit_journal.specs.declared.version.Version.TheVariants.{One, Two}
use Rattle.commit_journal.specs.Sharing.{shared_bytes}
use Rattle.commit_journal.specs.Grammar.{two_bytes, four_bytes, magic, max_all_bytes, IsWithin}

-- a text that is written against a base, whole or by what it shares
abbrev pub against : Version → List ℕ → List ℕ → List ℕ
against One base text = two_bytes (length text) ++ text
against Two base text =
    four_bytes (shared_bytes base text) ++ four_bytes (length text - shared_bytes base text) ++ drop (shared_bytes base text) text

unfoldable pub path_text : Version → List ℕ → Names → List ℕ
path_text v base p = against v base (joined p)

unfoldable pub step_text : Version → List ℕ → Step → List ℕ
step_text v base (MakeDir p) = 68 ∷ path_text v base p
step_text v base (Rename from to) = 82 ∷ path_text v base from ++ path_text v (joined from) to
step_text v base (Mode p old new) = 77 ∷ path_text v base p ++ two_bytes old ++ two_bytes new

unfoldable pub steps_text : Version → List ℕ → List Step → List ℕ
steps_text v base [] = []
steps_text v base (step ∷ steps) = step_text v base step ++ steps_text v (joined (first_path step)) steps

unfoldable pub journal_text : Version → List Step → List ℕ
journal_text v steps = magic v ++ four_bytes (length steps) ++ steps_text v [] steps

-- what has a text
pub record CanSpell (v : Version) (steps : List Step) : Type 0 where
  pub few : length steps < 2 ^ 32
  pub lawful : AllByRecursion IsLawfulStep steps
  pub paths : AllByRecursion HasPaths steps
  pub within : IsWithin v max_all_bytes steps

-- what `encode` writes: lawful steps, not too many, whose paths have not too many bytes together
pub record CanEncode (steps : List Step) : Type 0 where
  pub lawful : AllByRecursion IsLawfulStep steps
  pub few : length steps < 2 ^ 32
  pub within : all_bytes steps ≤ max_all_bytes
