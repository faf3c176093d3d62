-- The steps of a commit, and which of them a journal can spell.
use Rattle.std.specs.Prelude.{◌≡◌, ◌≢◌, ◌⊎◌, ℕ, ◌+◌, ◌≤◌, List, [], ◌∷◌, None, IsTrue}
use Rattle.std.specs.List.{AllByRecursion}
use Rattle.std.specs.Str.{IsUtf8}
use Rattle.dired_text.specs.Paths.{Names, is_name, path_bytes, max_path_bytes, rest_below}
use Rattle.commit_steps.specs.declared.step.Step.{Step}
use Rattle.commit_steps.specs.declared.step.Step.TheVariants.{MakeDir, Rename, Mode}
use Rattle.commit_steps.specs.Staging.{staging_name, staged, IsEntryName}

-- ---- what each value of the types `Name` and `Path` is

pub record IsName (n : List ℕ) : Type 0 where
  pub name : IsTrue (is_name n)
  pub utf8 : IsUtf8 n

pub record IsPath (p : Names) : Type 0 where
  pub names : AllByRecursion IsName p
  pub short : path_bytes p ≤ max_path_bytes

-- each path of the step is one
abbrev pub HasPaths : Step → Type 0
HasPaths (MakeDir p) = IsPath p
HasPaths (Rename from to) = IsPath from × IsPath to
HasPaths (Mode p old new) = IsPath p

-- ---- lawful steps

-- outside the staging directory, and not the root
abbrev pub IsOutside : Names → Type 0
IsOutside [] = ⊥
IsOutside (x ∷ p) = x ≢ staging_name

-- `tN`, `hN` or `fN` in the staging directory
pub record IsEntryPath (p : Names) : Type 0 where
  pub name : List ℕ
  pub is : p ≡ staged name
  pub entry : IsEntryName name

abbrev pub IsStepPath : Names → Type 0
IsStepPath p = IsOutside p ⊎ IsEntryPath p

-- permission bits with set-user, set-group and sticky
abbrev pub IsModeBits : ℕ → Type 0
IsModeBits mode = mode ≤ 0o7777

-- The staging directory is met only by a rename, as an entry in it. A rename leads neither to its own path, nor below
-- or above it. A change of mode changes it.
abbrev pub IsLawfulStep : Step → Type 0
IsLawfulStep (MakeDir p) = IsOutside p
IsLawfulStep (Rename from to) = IsStepPath from × IsStepPath to × (rest_below from to ≡ None) × (rest_below to from ≡ None)
IsLawfulStep (Mode p old new) = IsOutside p × IsModeBits old × IsModeBits new × (old ≢ new)

-- ---- bytes of paths

abbrev pub first_path : Step → Names
first_path (MakeDir p) = p
first_path (Rename from to) = from
first_path (Mode p old new) = p

-- the bytes of a step's paths together
abbrev pub step_bytes : Step → ℕ
step_bytes (MakeDir p) = path_bytes p
step_bytes (Rename from to) = path_bytes from + path_bytes to
step_bytes (Mode p old new) = path_bytes p

-- the bytes of all paths together
abbrev pub all_bytes : List Step → ℕ
all_bytes [] = 0
all_bytes (step ∷ steps) = step_bytes step + all_bytes steps
