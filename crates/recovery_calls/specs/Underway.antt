-- What stands in the staging directory while a recovery is on its way, whatever else stands in the tree.
use Rattle.std.specs.Prelude.{◌≡◌, ◌⊎◌, ℕ, List, [], ◌∷◌}
use Rattle.commit_steps.specs.declared.step.Step.{Step}
use Rattle.commit_steps.specs.declared.step.Step.TheVariants.{MakeDir, Rename, Mode}
use Rattle.commit_steps.specs.Staging.{staging, staged}
use Rattle.dired_text.specs.Paths.{Names}
use Rattle.recovery_courses.specs.Ends.{name_of}
use Rattle.staging_names.specs.declared.entry_name.EntryName.{EntryName}
use Rattle.tree_core.specs.FileTree.{FileTree, IsDir, IsFile, Stands}

-- the name of one of these entries
abbrev pub IsNamed : List ℕ → List EntryName → Type 0
IsNamed name [] = ⊥
IsNamed name (e ∷ es) = (name ≡ name_of e) ⊎ IsNamed name es

-- no two of them have one name
abbrev pub AreOnce : List EntryName → Type 0
AreOnce [] = Unit {0}
AreOnce (e ∷ es) = (IsNamed (name_of e) es → ⊥) × AreOnce es

-- a path in the staging directory is that of one of these entries
abbrev pub IsAmong : List EntryName → Names → Type 0
IsAmong es p = (name : List ℕ) → p ≡ staged name → IsNamed name es

-- and so is each path of the step
abbrev pub NamesAmong : List EntryName → Step → Type 0
NamesAmong es (MakeDir p) = IsAmong es p
NamesAmong es (Rename from to) = IsAmong es from × IsAmong es to
NamesAmong es (Mode p old new) = IsAmong es p

-- The staging directory stands, with a journal and a marker of these names, which are files. Whatever else stands in it is among
-- these entries.
pub record IsUnderway (journal marker : List ℕ) (es : List EntryName) (t : FileTree) : Type 0 where
  pub directory : IsDir t staging
  pub journal_there : IsFile t (staged journal)
  pub marker_there : IsFile t (staged marker)
  pub only : (name : List ℕ) → Stands t (staged name) → (name ≡ journal) ⊎ ((name ≡ marker) ⊎ IsNamed name es)
