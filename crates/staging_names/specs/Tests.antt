-- Which names may stand in the staging directory, and which one is foreign.
use Rattle.std.specs.Prelude.{◌≡◌, Result, Ok, Err, ℕ, ◌+◌, ◌==◌, Bool, true, false, ◌&&◌, ◌||◌, not, List, drop, position, find, nat_lt, Option, Some, None, is_some, is_none, if◌then◌else◌}
use Rattle.std.specs.Option.{option_map, option_or}
use Rattle.tree_core.specs.declared.node.Kind.{Kind}
use Rattle.tree_core.specs.declared.node.Kind.TheVariants as kind
use Rattle.staging_names.specs.declared.entry_name.Role.{Role}
use Rattle.staging_names.specs.declared.entry_name.Role.TheVariants.{Fresh, Held, Temporary}
use Rattle.staging_names.specs.declared.standing.Found as found
use Rattle.staging_names.specs.declared.standing.Standing as standing
use Rattle.staging_names.specs.declared.staged_name.Journal as journal
use Rattle.staging_names.specs.declared.staged_name.Journal.TheVariants.{Plan, Done, Undone}
use Rattle.staging_names.specs.declared.staged_name.Side.{Side}
use Rattle.staging_names.specs.declared.staged_name.Side.TheVariants.{At, Back}
use Rattle.staging_names.specs.declared.staged_name.Marker as marker
use Rattle.staging_names.specs.declared.staged_name.StagedName.{StagedName}
use Rattle.staging_names.specs.declared.staged_name.StagedName.TheVariants.{New, Journal, Marker, Entry, Other}

-- ---- what a name is

abbrev pub journal_in : StagedName → Option journal.Journal
journal_in New = None
journal_in (Journal j) = Some j
journal_in (Marker m) = None
journal_in (Entry e) = None
journal_in Other = None

abbrev pub marker_in : StagedName → Option marker.Marker
marker_in New = None
marker_in (Journal j) = None
marker_in (Marker m) = Some m
marker_in (Entry e) = None
marker_in Other = None

abbrev pub is_journal : found.Found → Bool
is_journal f = is_some (journal_in f.name)

abbrev pub is_marker : found.Found → Bool
is_marker f = is_some (marker_in f.name)

abbrev pub is_at : Side → Bool
is_at At = true
is_at Back = false

-- ---- the table: by the journal that stands, the other names

abbrev pub allows_marker : Option journal.Journal → marker.Marker → Bool
allows_marker None m = is_at m.side && m.number == 0
allows_marker (Some Plan) m = true
allows_marker (Some Done) m = is_at m.side
allows_marker (Some Undone) m = not (is_at m.side)

abbrev pub is_fresh : Role → Bool
is_fresh Fresh = true
is_fresh Held = false
is_fresh Temporary = false

abbrev pub is_held : Role → Bool
is_held Fresh = false
is_held Held = true
is_held Temporary = false

abbrev pub allows_entry : Option journal.Journal → Role → Bool
allows_entry None role = is_fresh role
allows_entry (Some Plan) role = true
allows_entry (Some Done) role = is_held role
allows_entry (Some Undone) role = is_fresh role

-- ---- the kinds

abbrev pub is_file : Option Kind → Bool
is_file None = false
is_file (Some kind.File) = true
is_file (Some kind.Dir) = false
is_file (Some kind.Link) = false

abbrev pub is_file_or_link : Option Kind → Bool
is_file_or_link None = false
is_file_or_link (Some kind.File) = true
is_file_or_link (Some kind.Dir) = false
is_file_or_link (Some kind.Link) = true

-- what waits may be anything, what was put aside no directory with entries, and what is new no directory
abbrev pub is_kind_for : Role → Option Kind → Bool → Bool
is_kind_for Fresh k is_empty = is_file_or_link k
is_kind_for Held k is_empty = is_file_or_link k || is_empty
is_kind_for Temporary k is_empty = true

-- The name is in the row of this journal, and has a kind that it may have.
abbrev pub fits_name : Option journal.Journal → StagedName → Option Kind → Bool → Bool
fits_name row New k is_empty = is_none row && is_file k
fits_name row (Journal j) k is_empty = is_file k
fits_name row (Marker m) k is_empty = allows_marker row m && is_file k
fits_name row (Entry e) k is_empty = allows_entry row e.role && is_kind_for e.role k is_empty
fits_name row Other k is_empty = false

abbrev pub fits : Option journal.Journal → found.Found → Bool
fits row f = fits_name row f.name f.kind f.is_empty

-- ---- places in what was found, which comes in the order of the names

abbrev pub behind_place : {X : Type 0} → (X → Bool) → List X → Option ℕ → Option ℕ
behind_place p xs None = None
behind_place p xs (Some i) = option_map (λ j. i + 1 + j) (position p (drop (i + 1) xs))

-- the second place at which a test holds
abbrev pub second_position : {X : Type 0} → (X → Bool) → List X → Option ℕ
second_position p xs = behind_place p xs (position p xs)

abbrev pub journal_at : Option found.Found → Option journal.Journal
journal_at None = None
journal_at (Some f) = journal_in f.name

abbrev pub marker_at : Option found.Found → Option marker.Marker
marker_at None = None
marker_at (Some f) = marker_in f.name

-- the first journal, and the first marker
abbrev pub journal_of : List found.Found → Option journal.Journal
journal_of fs = journal_at (find is_journal fs)

abbrev pub marker_of : List found.Found → Option marker.Marker
marker_of fs = marker_at (find is_marker fs)

abbrev pub standing_of : List found.Found → standing.Standing
standing_of fs = record { journal = journal_of fs; marker = marker_of fs }

-- ---- the tests, in their order. Each gives the place of what is foreign.

-- Where more than one journal stands it is the first one.
abbrev pub of_two_journals : List found.Found → Option ℕ
of_two_journals fs = if is_some (second_position is_journal fs) then position is_journal fs else None

-- the first whose name isn't in the table's row, or which has a wrong kind
abbrev pub unfit : List found.Found → Option ℕ
unfit fs = position (λ f. not (fits (journal_of fs) f)) fs

-- the second of several markers
abbrev pub second_marker : List found.Found → Option ℕ
second_marker fs = second_position is_marker fs

abbrev pub wants_marker : Option journal.Journal → Bool
wants_marker None = false
wants_marker (Some Plan) = true
wants_marker (Some Done) = false
wants_marker (Some Undone) = false

-- `plan` without a marker
abbrev pub unmarked : List found.Found → Option ℕ
unmarked fs = if wants_marker (journal_of fs) && is_none (marker_of fs) then position is_journal fs else None

-- the place of the foreign one that is told
unfoldable pub foreign_place : List found.Found → Option ℕ
foreign_place fs = option_or (of_two_journals fs) (option_or (unfit fs) (option_or (second_marker fs) (unmarked fs)))

-- what stands is told exactly where nothing is foreign, and else the place of the first foreign name
abbrev pub TellsStanding : List found.Found → Result standing.Standing ℕ → Type 0
TellsStanding fs (Ok s) = (foreign_place fs ≡ None) × (s ≡ standing_of fs)
TellsStanding fs (Err place) = foreign_place fs ≡ Some place

-- A marker counts more steps than there are.
abbrev pub counts_more : Option marker.Marker → ℕ → Bool
counts_more None steps = false
counts_more (Some m) steps = nat_lt steps m.number

-- its place, where it does
abbrev pub beyond_place : List found.Found → ℕ → Option ℕ
beyond_place fs steps = if counts_more (marker_of fs) steps then position is_marker fs else None
