-- What a recovery finds where a commit was stopped.
use Rattle.std.specs.Prelude.{◌≡◌, ◌⊎◌, ℕ, ◌<◌, ◌≤◌, Bool, true, false, ◌&&◌, List, [], ◌∷◌, ◌++◌, length, map, Option, Some, None, Result, MatchResult, MatchOption}
use Rattle.std.specs.List.{AllByRecursion, slice_get}
use Rattle.std.specs.Option.{option_map}
use Rattle.std.specs.FinMap.{get}
use Rattle.commit_journal.specs.Faults.{IsFault}
use Rattle.commit_journal.specs.Grammar.{IsJournal}
use Rattle.commit_states.specs.Interrupted.{max_journal_bytes}
use Rattle.commit_steps.specs.declared.step.Step.{Step}
use Rattle.commit_steps.specs.Staging.{staging, staging_name, staged}
use Rattle.staging_names.specs.declared.staged_name.Journal as journal
use Rattle.staging_names.specs.declared.staged_name.StagedName.{StagedName}
use Rattle.staging_names.specs.declared.staged_name.StagedName.TheVariants.{New, Journal, Marker, Entry, Other}
use Rattle.staging_names.specs.declared.standing.Found.{Found}
use Rattle.staging_names.specs.Entries.{AreEntries, entries_found, entries_named}
use Rattle.staging_names.specs.Names.{journal_name, name_read}
use Rattle.staging_names.specs.Tests.{beyond_place, foreign_place, is_held, journal_of, standing_of}
use Rattle.step_trees.specs.Steps.{IsStep}
use Rattle.tree_core.specs.declared.node.CallName.{CallName}
use Rattle.tree_core.specs.declared.node.Node.{Node}
use Rattle.tree_core.specs.Fields.{bytes_of, names_in}
use Rattle.tree_core.specs.FileTree.{FileTree, IsAbsent, IsDir, Stands, is_dir_node, kind_of}
use Rattle.recovery_start.specs.declared.end.StartEnd.{StartEnd}
use Rattle.recovery_start.specs.declared.end.StartEnd.TheVariants as end
use Rattle.recovery_start.specs.declared.leftovers.Leftovers.{Leftovers}

-- the failed call that an end names
abbrev pub failed_start : StartEnd → Option CallName
failed_start (end.Foreign name) = None
failed_start (end.BadJournal offset) = None
failed_start end.Memory = None
failed_start (end.TreeFault call) = Some call

-- it tells of names or of the journal
abbrev pub is_told : StartEnd → Bool
is_told (end.Foreign name) = true
is_told (end.BadJournal offset) = true
is_told end.Memory = false
is_told (end.TreeFault call) = false

-- ---- what stands in the staging directory

abbrev pub name_found : Found → StagedName
name_found f = f.name

abbrev pub is_held_name : StagedName → Bool
is_held_name New = false
is_held_name (Journal j) = false
is_held_name (Marker m) = false
is_held_name (Entry e) = is_held e.role
is_held_name Other = false

abbrev pub has_none : List (List ℕ) → Bool
has_none [] = true
has_none (n ∷ names) = false

-- under this name
abbrev pub found_at : FileTree → List ℕ → Found
found_at t n = record {
  name = name_read n;
  kind = option_map kind_of (get t (staged n));
  is_empty = is_held_name (name_read n) && is_dir_node (get t (staged n)) && has_none (names_in t (staged n));
}

-- and under all names, in the order of their bytes
abbrev pub found_in : FileTree → List Found
found_in t = map (found_at t) (names_in t staging)

-- ---- the steps of the journal

-- the bytes are those of a journal of these steps, which isn't too long to be read
pub record IsReadAs (bytes : List ℕ) (steps : List Step) : Type 0 where
  pub journal : IsJournal steps bytes
  pub short : length bytes ≤ max_journal_bytes

-- they are too long, and can't be read from the end of what may be read on; or no steps have them as their journal, and this is the
-- place of the fault
abbrev pub IsUnreadable : List ℕ → ℕ → Type 0
IsUnreadable bytes offset =
    ((max_journal_bytes < length bytes) × (offset ≡ max_journal_bytes))
    ⊎ ((length bytes ≤ max_journal_bytes) × IsFault bytes offset × ((steps : List Step) → ¬ (IsJournal steps bytes)))

-- this is the file of such bytes
abbrev pub HoldsBytes : Option Node → (List ℕ → Type 0) → Type 0
HoldsBytes found P = (bytes : List ℕ) × (bytes_of found ≡ Some bytes) × P bytes

-- what its reading ends with; want of memory and failed calls are told elsewhere
abbrev pub IsUnreadEnd : Option Node → StartEnd → Type 0
IsUnreadEnd found (end.Foreign name) = ⊥
IsUnreadEnd found (end.BadJournal offset) = HoldsBytes found (λ bytes. IsUnreadable bytes offset)
IsUnreadEnd found end.Memory = Unit {0}
IsUnreadEnd found (end.TreeFault call) = Unit {0}

abbrev pub IsReadSteps : Option Node → Result (List Step) StartEnd → Type 0
IsReadSteps found result = MatchResult result (λ steps. HoldsBytes found (λ bytes. IsReadAs bytes steps)) (IsUnreadEnd found)

-- of the journal that stands; there are no steps without one
abbrev pub HasSteps : FileTree → Option journal.Journal → List Step → Type 0
HasSteps t None steps = steps ≡ []
HasSteps t (Some j) steps = HoldsBytes (get t (staged (journal_name j))) (λ bytes. IsReadAs bytes steps)

abbrev pub HasBadJournal : FileTree → Option journal.Journal → ℕ → Type 0
HasBadJournal t None offset = ⊥
HasBadJournal t (Some j) offset = HoldsBytes (get t (staged (journal_name j))) (λ bytes. IsUnreadable bytes offset)

abbrev pub IsJournalEnd : FileTree → Option journal.Journal → StartEnd → Type 0
IsJournalEnd t found (end.Foreign name) = ⊥
IsJournalEnd t found (end.BadJournal offset) = HasBadJournal t found offset
IsJournalEnd t found end.Memory = Unit {0}
IsJournalEnd t found (end.TreeFault call) = Unit {0}

-- ---- what is left

-- the name at a place among those in the staging directory
abbrev pub IsNameAt : FileTree → ℕ → List ℕ → Type 0
IsNameAt t place name = slice_get (names_in t staging) place ≡ Some name

-- What was found is sorted out: nothing is foreign, the steps can be undone, and the entries are those that stand or that a step names.
pub record IsSortedOut (l : Leftovers) : Type 0 where
  pub named : map name_found l.found.items ≡ map name_read l.names.items
  pub paths : l.paths.items ≡ map staged l.names.items
  pub in_order : foreign_place l.found.items ≡ None
  pub standing : l.standing ≡ standing_of l.found.items
  pub counted : beyond_place l.found.items (length l.steps) ≡ None
  pub steps : AllByRecursion IsStep l.steps
  pub entries : AreEntries (entries_found l.found.items ++ entries_named l.steps) l.entries.items

-- It is what stands.
pub record IsStanding (t : FileTree) (l : Leftovers) : Type 0 where
  pub dir : IsDir t staging
  pub names : l.names.items ≡ names_in t staging
  pub found : l.found.items ≡ found_in t
  pub steps : HasSteps t (journal_of (found_in t)) l.steps

-- Something else than a directory stands at the staging directory's path; or a test of names fails, and this is the name at its place;
-- or the journal could be read and a marker counts more steps.
pub data IsForeign (t : FileTree) (name : List ℕ) : Type 0 where
  no_directory : Stands t staging → is_dir_node (get t staging) ≡ false → name ≡ staging_name → IsForeign t name
  by_name : IsDir t staging → (place : ℕ) → foreign_place (found_in t) ≡ Some place → IsNameAt t place name → IsForeign t name
  by_count : IsDir t staging → foreign_place (found_in t) ≡ None → (steps : List Step) → HasSteps t (journal_of (found_in t)) steps
      → (place : ℕ) → beyond_place (found_in t) (length steps) ≡ Some place → IsNameAt t place name → IsForeign t name

-- No name is foreign, and the journal that stands can't be read.
pub record IsBadAt (t : FileTree) (offset : ℕ) : Type 0 where
  pub dir : IsDir t staging
  pub in_order : foreign_place (found_in t) ≡ None
  pub bad : HasBadJournal t (journal_of (found_in t)) offset

-- Why a recovery doesn't begin. Want of memory and failed calls are told elsewhere.
abbrev pub IsEnd : FileTree → StartEnd → Type 0
IsEnd t (end.Foreign name) = IsForeign t name
IsEnd t (end.BadJournal offset) = IsBadAt t offset
IsEnd t end.Memory = Unit {0}
IsEnd t (end.TreeFault call) = Unit {0}

-- a foreign name, unless memory ran out
abbrev pub IsForeignEnd : Option (List ℕ) → StartEnd → Type 0
IsForeignEnd found (end.Foreign name) = found ≡ Some name
IsForeignEnd found (end.BadJournal offset) = ⊥
IsForeignEnd found end.Memory = Unit {0}
IsForeignEnd found (end.TreeFault call) = ⊥

-- What is found: nothing, or what stands.
abbrev pub IsStart : FileTree → Result (Option Leftovers) StartEnd → Type 0
IsStart t result = MatchResult result (λ found. MatchOption found (IsAbsent t staging) (IsStanding t)) (IsEnd t)
