-- The text of a journal: which lists of bytes are a text of which lists of steps. Numbers have their highest byte first.
use Rattle.std.specs.Prelude.{◌≡◌, ℕ, ◌-◌, ◌<◌, ◌≤◌, ◌^◌, List, [], ◌∷◌, ◌++◌, length, drop, codes}
use Rattle.std.specs.List.{AllByRecursion}
use Rattle.std.specs.Int.{w16, w32, to_be_bytes}
use Rattle.dired_text.specs.Paths.{Names, joined, path_bytes}
use Rattle.commit_steps.specs.declared.step.Step.{Step}
use Rattle.commit_steps.specs.declared.step.Step.TheVariants.{MakeDir, Rename, Mode}
use Rattle.commit_steps.specs.Steps.{HasPaths, IsLawfulStep, first_path, all_bytes}
use Rattle.commit_journal.specs.declared.version.Version.{Version}
use Rattle.commit_journal.specs.declared.version.Version.TheVariants.{One, Two}
use Rattle.commit_journal.specs.Sharing.{IsShared}

-- a number in two bytes, and in four
abbrev pub two_bytes : ℕ → List ℕ
two_bytes = to_be_bytes w16

abbrev pub four_bytes : ℕ → List ℕ
four_bytes = to_be_bytes w32

-- what a journal begins with
abbrev pub magic : Version → List ℕ
magic One = codes "WDJ1"
magic Two = codes "WDJ2"

-- A path: in version 1 its length and its bytes; in version 2 how many first bytes it shares with a base, which is the
-- greatest number that they allow, how many further bytes it has, and these.
abbrev pub IsPathText : Version → List ℕ → Names → List ℕ → Type 0
IsPathText One base p text = text ≡ two_bytes (path_bytes p) ++ joined p
IsPathText Two base p text =
    (shared : ℕ) × IsShared base (joined p) shared
    × (text ≡ four_bytes shared ++ four_bytes (path_bytes p - shared) ++ drop shared (joined p))

-- A step: its letter, its paths and its modes. The base of a second path is the first.
abbrev pub IsStepText : Version → List ℕ → Step → List ℕ → Type 0
IsStepText v base (MakeDir p) text = (path : List ℕ) × IsPathText v base p path × (text ≡ 68 ∷ path)
IsStepText v base (Rename from to) text =
    (first : List ℕ) × (second : List ℕ) × IsPathText v base from first × IsPathText v (joined from) to second
    × (text ≡ 82 ∷ first ++ second)
IsStepText v base (Mode p old new) text =
    (path : List ℕ) × IsPathText v base p path × (text ≡ 77 ∷ path ++ two_bytes old ++ two_bytes new)

-- Steps, one behind the other. The base of a step's first path is the first path of the step before.
abbrev pub AreStepTexts : Version → List ℕ → List Step → List ℕ → Type 0
AreStepTexts v base [] text = text ≡ []
AreStepTexts v base (step ∷ steps) text =
    (first : List ℕ) × (others : List ℕ) × IsStepText v base step first
    × AreStepTexts v (joined (first_path step)) steps others × (text ≡ first ++ others)

-- the most bytes that the paths of a journal of version 2 have together
abbrev pub max_all_bytes : ℕ
max_all_bytes = 268_435_456

abbrev pub IsWithin : Version → ℕ → List Step → Type 0
IsWithin One most steps = Unit {0}
IsWithin Two most steps = all_bytes steps ≤ most

-- the bytes are the text of lawful steps, the first path of which has no base
pub record AreSpelled (v : Version) (steps : List Step) (text : List ℕ) : Type 0 where
  pub lawful : AllByRecursion IsLawfulStep steps
  pub paths : AllByRecursion HasPaths steps
  pub within : IsWithin v max_all_bytes steps
  pub texts : AreStepTexts v [] steps text

-- the magic, the number of steps, the steps, and nothing behind them
pub record IsJournalOf (v : Version) (steps : List Step) (bytes : List ℕ) : Type 0 where
  pub few : length steps < 2 ^ 32
  pub body : List ℕ
  pub spelled : AreSpelled v steps body
  pub is : bytes ≡ magic v ++ four_bytes (length steps) ++ body

-- a journal of these steps, of one of the two versions
pub record IsJournal (steps : List Step) (bytes : List ℕ) : Type 0 where
  pub version : Version
  pub journal : IsJournalOf version steps bytes
