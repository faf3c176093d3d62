-- How rows in an order, and what is kept of the changes, hold a buffer.
use Rattle.std.specs.Prelude.{◌≡◌, ℕ, ◌+◌, ◌<◌, ◌≤◌, zero, suc, List, [], ◌∷◌, ◌++◌, length, drop, Bool, true, false, Option, Some, None, Result, Ok, Err}
use Rattle.link_rows.specs.Values.{value_at}
use Rattle.link_rows.specs.declared.rows.RowId.{RowId}
use Rattle.std.specs.BTreeMap.{insert_entry}
use Rattle.std.specs.List.Sorted.{IsStrictlySortedBy}
use Rattle.dired_text.specs.Paths.{Names, path_cmp}
use Rattle.dired_text.specs.declared.text.Memory.{Memory as memory}
use Rattle.listing_text.specs.declared.line.Line.{Line as line_type}
use Rattle.listing_text.specs.declared.switches.Switches.{Switches}
use Rattle.section_rows.specs.declared.row.BufferRow.{BufferRow}
use Rattle.section_rows.specs.declared.row.BufferRow.TheVariants.{Head, Line}
use Rattle.section_rows.specs.Orders.{Ordered, Step, Taken, Put, no_rows, run, undone, values_in}
use Rattle.section_buffer.specs.declared.kept.Kept.{Kept}
use Rattle.section_buffer.specs.declared.kept.Kept.TheVariants.{Kill, Insertion}
use Rattle.section_buffer.specs.declared.section.Section.{Section}
use Rattle.section_buffer.specs.Rows.{lines_of, rows_of, sections_of}
use Rattle.section_buffer.specs.Relisting.{Moves, Place, dir_after, dirs_of}
use Rattle.section_buffer.specs.Buffers.{BufferState, Event, Inserted, Killed, later_place, rows_of_section}

-- the place of the row that the last step took out
abbrev pub place_in : List Step → ℕ
place_in [] = 0
place_in (Taken at r ∷ steps) = at
place_in (Put first count ∷ steps) = 0

-- the values of the rows that the last so many steps took out, in their order
abbrev pub taken_values : List BufferRow → ℕ → List Step → List BufferRow
taken_values values zero steps = []
taken_values values (suc n) [] = []
taken_values values (suc n) (Taken at r ∷ steps) = taken_values values n steps ++ value_at values r
taken_values values (suc n) (Put first count ∷ steps) = taken_values values n steps

-- the directory of the first of these rows
abbrev pub dir_in : List BufferRow → Names
dir_in [] = []
dir_in (Head dir hidden ∷ rows) = dir
dir_in (Line line ∷ rows) = []

-- the directory of the section that the last step put in
abbrev pub dir_put : List BufferRow → List Step → Names
dir_put values [] = []
dir_put values (Taken at r ∷ steps) = []
dir_put values (Put first count ∷ steps) = dir_in (value_at values first)

-- and its rows
abbrev pub count_put : List Step → ℕ
count_put [] = 0
count_put (Taken at r ∷ steps) = 0
count_put (Put first count ∷ steps) = count

abbrev pub events_of : List BufferRow → List Step → List Kept → List Event
events_of values steps [] = []
events_of values steps (Kill n ∷ kept) = Killed (place_in steps) (taken_values values n steps) ∷ events_of values (drop n steps) kept
events_of values steps (Insertion at head ∷ kept) = Inserted at (count_put steps) (dir_put values steps) ∷ events_of values (drop 1 steps) kept

abbrev pub seen_as : Switches → Ordered → List Kept → BufferState
seen_as switches o kept = record { switches = switches; sections = sections_of (values_in o.values o.order); events = events_of o.values o.steps kept }

-- these rows taken out one after another, behind so many others
abbrev pub steps_taken : ℕ → List ℕ → List Step → List Step
steps_taken at [] steps = steps
steps_taken at (r ∷ rows) steps = steps_taken at rows (Taken at r ∷ steps)

-- with the last so many steps undone
abbrev pub steps_undone : ℕ → Ordered → Ordered
steps_undone zero o = o
steps_undone (suc n) o = undone (steps_undone n o)

-- The last steps, which led to this order, are these changes. No change is of the first row.
abbrev pub AreChanges : List ℕ → List Step → List Kept → Type 0
AreChanges order steps [] = Unit {0}
AreChanges order steps (Kill n ∷ kept) =
    (fs : List ℕ) × (rows : List ℕ) × (gs : List ℕ) × (older : List Step)
    × (order ≡ fs ++ gs) × (steps ≡ steps_taken (length fs) rows older) × (length rows ≡ n) × (0 < n) × (0 < length fs) × AreChanges (fs ++ (rows ++ gs)) older kept
AreChanges order steps (Insertion at head ∷ kept) =
    (fs : List ℕ) × (count : ℕ) × (gs : List ℕ) × (older : List Step)
    × (order ≡ fs ++ (run head.0 count ++ gs)) × (steps ≡ Put head.0 count ∷ older) × (length fs ≡ at) × (0 < at) × AreChanges (fs ++ gs) older kept

-- these steps are of so many rows
abbrev pub AreOfRows : ℕ → List Step → Type 0
AreOfRows n [] = Unit {0}
AreOfRows n (Taken at r ∷ steps) = (r < n) × AreOfRows n steps
AreOfRows n (Put first count ∷ steps) = (first < n) × AreOfRows n steps

-- how many rows were taken out, and how many sections put in
abbrev pub changes_in : List Kept → ℕ
changes_in [] = 0
changes_in (Kill n ∷ kept) = n + changes_in kept
changes_in (Insertion at head ∷ kept) = 1 + changes_in kept

-- the first row is the head of the root
abbrev pub IsRootFirst : List BufferRow → Type 0
IsRootFirst [] = ⊥
IsRootFirst (Head [] hidden ∷ rows) = Unit {0}
IsRootFirst (Head (name ∷ dir) hidden ∷ rows) = ⊥
IsRootFirst (Line line ∷ rows) = ⊥

-- with room for so many changes
pub record IsBuffer (o : Ordered) (kept : List Kept) (room : ℕ) : Type 0 where
  pub built : o.built ≡ 0
  pub root : IsRootFirst (values_in o.values o.order)
  pub changes : AreChanges o.order o.steps kept
  pub below : AreOfRows (length o.values) o.steps
  pub fits : changes_in kept + length o.order ≤ room

-- Of rows in this order the one that stands at this place was found, or none where there is no such place.
abbrev pub FoundAt : List ℕ → Option ℕ → Option ℕ → Type 0
FoundAt order None None = Unit {0}
FoundAt order None (Some r) = ⊥
FoundAt order (Some at) None = ⊥
FoundAt order (Some at) (Some r) = (fs : List ℕ) × (gs : List ℕ) × (order ≡ fs ++ r ∷ gs) × (length fs ≡ at)

-- the value of a head, where there is one, and whether it hides its lines
abbrev pub head_value : List BufferRow → Option ℕ → List BufferRow
head_value values None = []
head_value values (Some r) = value_at values r

abbrev pub hidden_in : List BufferRow → Bool
hidden_in [] = true
hidden_in (Head dir hidden ∷ rows) = hidden
hidden_in (Line line ∷ rows) = true

-- each of these rows is a line
abbrev pub AreLines : List BufferRow → Type 0
AreLines [] = Unit {0}
AreLines (Head dir hidden ∷ rows) = ⊥
AreLines (Line line ∷ rows) = AreLines rows

-- the first of these rows is no line
abbrev pub NoLineFirst : List BufferRow → Type 0
NoLineFirst [] = Unit {0}
NoLineFirst (Head dir hidden ∷ rows) = Unit {0}
NoLineFirst (Line line ∷ rows) = ⊥

-- The row r and the lines behind it, so many rows, were taken out one after another.
pub record SectionTaken (old : Ordered) (r many : ℕ) (new : Ordered) : Type 0 where
  pub before : List ℕ
  pub lines : List ℕ
  pub behind : List ℕ
  pub parts : old.order ≡ before ++ (r ∷ (lines ++ behind))
  pub count : length (r ∷ lines) ≡ many
  pub are_lines : AreLines (values_in old.values lines)
  pub no_more : NoLineFirst (values_in old.values behind)
  pub end : new ≡ record { order = before ++ behind; built = 0; values = old.values; steps = steps_taken (length before) (r ∷ lines) old.steps }

-- the section of a head with the rows behind it, or none for a line
abbrev pub first_section : BufferRow → List BufferRow → List Section
first_section (Head dir hidden) rows = record { dir = dir; hidden = hidden; lines = lines_of rows } ∷ []
first_section (Line line) rows = []

-- The row a is the one behind which the section of this directory is put, as the n-th row from the first on.
abbrev pub IsBehind : Ordered → Names → Option ℕ → ℕ → Type 0
IsBehind o dir None n = ⊥
IsBehind o dir (Some a) n =
    (fs : List ℕ) × (gs : List ℕ) × (o.order ≡ fs ++ a ∷ gs) × (length (fs ++ a ∷ []) ≡ n) × (later_place dir (values_in o.values o.order) ≡ n)

-- with these rows made, which are to be put in
abbrev pub with_made : List BufferRow → Ordered → Ordered
with_made rows o = record { order = o.order; built = length rows + o.built; values = o.values ++ rows; steps = o.steps }

-- These rows are made, the first with the number that is answered, or after a refusal some rows.
abbrev pub Makes : List BufferRow → Result RowId memory → Ordered → Ordered → Type 0
Makes rows (Ok head) old new = (head.0 ≡ length old.values) × (new ≡ with_made rows old)
Makes rows (Err refused) old new = (some : List BufferRow) × (new ≡ with_made some old)

-- The rows of a section of this place are made, with lines as they are to be.
abbrev pub MakesSection : (List line_type → Type 0) → Place → Ordered → Ordered → Type 0
MakesSection Are place old new = (lines : List line_type) × Are lines × (new ≡ with_made (rows_of_section place.0 place.1 lines) old)

-- Where a directory stands, the rows of a section of this place are made; elsewhere nothing is, and the place isn't the root.
abbrev pub ListsPlace : Bool → (List line_type → Type 0) → Place → Ordered → Ordered → Type 0
ListsPlace true Are place old new = MakesSection Are place old new
ListsPlace false Are place old new = (place.0 ≡ [] → ⊥) × (new ≡ old)

-- The rows of sections as they are to be are made, and no others. They are in path order, the root's first.
pub record AreRowsOf (Are : List Section → Type 0) (rows : Ordered) : Type 0 where
  pub sections : List Section
  pub are : Are sections
  pub root : IsRootFirst (rows_of sections)
  pub in_order : IsStrictlySortedBy path_cmp (dirs_of sections)
  pub made : rows ≡ with_made (rows_of sections) no_rows

-- these places, and that of the section of a head
abbrev pub with_place : Moves → BufferRow → List Place → List Place
with_place moved (Head dir hidden) places = insert_entry path_cmp places (dir_after moved dir) hidden
with_place moved (Line line) places = places
