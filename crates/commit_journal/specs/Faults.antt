-- Where the first item of a journal begins that can't be read. Items are the magic, the count and each step.
use Rattle.std.specs.Prelude.{◌≡◌, ◌≢◌, ◌⊎◌, ℕ, ◌+◌, ◌<◌, ◌^◌, List, [], ◌∷◌, ◌++◌, length}
use Rattle.commit_steps.specs.declared.step.Step.{Step}
use Rattle.commit_journal.specs.declared.version.Version.{Version}
use Rattle.commit_journal.specs.declared.fault.JournalFault.{JournalFault}
use Rattle.commit_journal.specs.declared.fault.JournalFault.TheVariants.{BadJournal, Memory}
use Rattle.commit_journal.specs.Grammar.{magic, four_bytes, AreSpelled, IsJournal}

-- the magic of no version
abbrev pub HasNoMagic : List ℕ → Type 0
HasNoMagic bytes = (v : Version) (rest : List ℕ) → bytes ≢ magic v ++ rest

-- a magic, and behind it too few bytes for a count
pub record HasNoCount (bytes : List ℕ) : Type 0 where
  pub version : Version
  pub rest : List ℕ
  pub is : bytes ≡ magic version ++ rest
  pub short : length rest < 4

-- the magic, the count and the first steps can be read, up to some rest
pub record CanRead (bytes : List ℕ) (v : Version) (count : ℕ) (steps : List Step) (text rest : List ℕ) : Type 0 where
  pub small : count < 2 ^ 32
  pub spelled : AreSpelled v steps text
  pub is : bytes ≡ magic v ++ four_bytes count ++ text ++ rest

-- behind the text of these steps the rest begins with no further step
abbrev pub HasNoStep : Version → List Step → List ℕ → List ℕ → Type 0
HasNoStep v steps text rest =
    (step : Step) (next more : List ℕ) → rest ≡ next ++ more → ¬ (AreSpelled v (steps ++ step ∷ []) (text ++ next))

-- so many steps can be read, and then a step is due that can't, or more stands behind the last
pub record StopsBehind (bytes : List ℕ) (offset : ℕ) : Type 0 where
  pub version : Version
  pub count : ℕ
  pub steps : List Step
  pub text : List ℕ
  pub rest : List ℕ
  pub read : CanRead bytes version count steps text rest
  pub place : offset ≡ 8 + length text
  pub stops : ((length steps < count) × HasNoStep version steps text rest) ⊎ ((length steps ≡ count) × (rest ≢ []))

abbrev pub IsFault : List ℕ → ℕ → Type 0
IsFault bytes offset = ((offset ≡ 0) × HasNoMagic bytes) ⊎ (((offset ≡ 4) × HasNoCount bytes) ⊎ StopsBehind bytes offset)

-- no steps have these bytes as a text, and this is the place; or memory ran out
abbrev pub IsRefused : List ℕ → JournalFault → Type 0
IsRefused bytes (BadJournal offset) = IsFault bytes offset × ((steps : List Step) → ¬ (IsJournal steps bytes))
IsRefused bytes Memory = Unit {0}
