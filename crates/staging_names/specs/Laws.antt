-- Names are read as they are spelled, and what was found is sorted out as it should be, as statements.
use Rattle.std.specs.Prelude.{◌≡◌, ◌≢◌, ◌↔◌, ℕ, ◌<◌, ◌-◌, ◌^◌, false, List, Some, None, IsTrue}
use Rattle.std.specs.List.{AllByRecursion}
use Rattle.staging_names.specs.declared.standing.Found as found
use Rattle.staging_names.specs.declared.staged_name.Marker as marker
use Rattle.staging_names.specs.declared.staged_name.Journal.TheVariants.{Plan}
use Rattle.staging_names.specs.declared.staged_name.StagedName.{StagedName}
use Rattle.staging_names.specs.declared.staged_name.StagedName.TheVariants.{New, Journal, Marker, Entry, Other}
use Rattle.staging_names.specs.Names.{IsSpelled, name_read}
use Rattle.staging_names.specs.Tests.{beyond_place, counts_more, fits, foreign_place, is_journal, is_marker, journal_of, marker_of, second_position}

-- the number of a marker is below the greatest of 64 bits, which stands for all greater ones
abbrev pub IsExact : StagedName → Type 0
IsExact New = Unit {0}
IsExact (Journal j) = Unit {0}
IsExact (Marker m) = m.number < 2 ^ 64 - 1
IsExact (Entry e) = Unit {0}
IsExact Other = ⊥

-- What is spelled is read, and what is read was spelled: a name stands for one thing.
abbrev pub NamesAreRead : Type 0
NamesAreRead = (name : List ℕ) (what : StagedName) → IsExact what → IsSpelled name what → name_read name ≡ what

abbrev pub ReadsAreSpelled : Type 0
ReadsAreSpelled = (name : List ℕ) → IsExact (name_read name) → IsSpelled name (name_read name)

-- No test fails: at most one journal, each in its row and of its kind, at most one marker, and one with `plan`.
pub record IsInOrder (fs : List found.Found) : Type 0 where
  pub one_journal : second_position is_journal fs ≡ None
  pub fit : AllByRecursion (λ f. IsTrue (fits (journal_of fs) f)) fs
  pub one_marker : second_position is_marker fs ≡ None
  pub marked : journal_of fs ≡ Some Plan → marker_of fs ≢ None

-- Nothing is foreign exactly where no test fails.
abbrev pub InOrderIsNotForeign : Type 0
InOrderIsNotForeign = (fs : List found.Found) → (foreign_place fs ≡ None) ↔ IsInOrder fs

-- A marker has a place: it counts no more than the steps exactly where none is told.
abbrev pub MarkersHavePlaces : Type 0
MarkersHavePlaces = (fs : List found.Found) (steps : ℕ) → (beyond_place fs steps ≡ None) ↔ (counts_more (marker_of fs) steps ≡ false)
