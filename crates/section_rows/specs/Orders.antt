-- Rows by their numbers, in one order, and the steps on it that may be undone.
use Rattle.std.specs.Prelude.{ℕ, zero, suc, ◌+◌, ◌-◌, ◌==◌, Bool, not, ◌&&◌, nat_le, nat_lt, List, [], ◌∷◌, ◌++◌, length, take, drop, Option, Some, None, if◌then◌else◌, filter, Contains}
use Rattle.link_rows.specs.Values.{value_at}
use Rattle.section_rows.specs.declared.row.BufferRow.{BufferRow}
use Rattle.section_rows.specs.declared.row.BufferRow.TheVariants.{Head, Line}

-- A step: a row was taken out, behind so many others; or a run of new rows was put in, by its first row and their number.
pub data Step : Type 0 where
  Taken : ℕ → ℕ → Step
  Put : ℕ → ℕ → Step

-- `order` is of rows, `built` the number of the newest rows, which are to be put in. The last step comes first.
pub record Ordered : Type 0 where
  pub order : List ℕ
  pub built : ℕ
  pub values : List BufferRow
  pub steps : List Step

abbrev pub no_rows : Ordered
no_rows = record { order = []; built = 0; values = []; steps = [] }

-- so many rows, from the first on
abbrev pub run : ℕ → ℕ → List ℕ
run first zero = []
run first (suc n) = run first n ++ (first + n) ∷ []

-- how many rows stand before r
abbrev pub place_of : ℕ → List ℕ → ℕ
place_of r [] = 0
place_of r (x ∷ xs) = if x == r then 0 else suc (place_of r xs)

abbrev pub without : ℕ → List ℕ → List ℕ
without r [] = []
without r (x ∷ xs) = if x == r then xs else x ∷ without r xs

-- with r behind so many others
abbrev pub with_at : ℕ → ℕ → List ℕ → List ℕ
with_at at r order = take at order ++ r ∷ drop at order

-- with these rows behind the row r
abbrev pub behind_row : ℕ → List ℕ → List ℕ → List ℕ
behind_row r rows [] = []
behind_row r rows (x ∷ xs) = if x == r then x ∷ (rows ++ xs) else x ∷ behind_row r rows xs

-- and with these rows in front of all, where no row is named
abbrev pub with_behind : Option ℕ → List ℕ → List ℕ → List ℕ
with_behind None rows order = rows ++ order
with_behind (Some r) rows order = behind_row r rows order

-- without the rows of a run
abbrev pub without_run : ℕ → ℕ → List ℕ → List ℕ
without_run first count order = filter (λ r. not (nat_le first r && nat_lt r (first + count))) order

-- a new row, which is to be put in
abbrev pub pushed_row : BufferRow → Ordered → Ordered
pushed_row v t = record t { built = suc t.built; values = t.values ++ v ∷ [] }

-- the new rows, put in behind this row or in front of all
abbrev pub put_in : Option ℕ → Ordered → Ordered
put_in after t = let first = length t.values - t.built in record t {
  order = with_behind after (run first t.built) t.order;
  built = 0;
  steps = Put first t.built ∷ t.steps;
}

-- the new rows are given up
abbrev pub given_up : Ordered → Ordered
given_up t = record t { built = 0 }

abbrev pub taken : ℕ → Ordered → Ordered
taken r t = record t { order = without r t.order; steps = Taken (place_of r t.order) r ∷ t.steps }

-- without the last step
abbrev pub undone_by : List Step → Ordered → Ordered
undone_by [] t = t
undone_by (Taken at r ∷ older) t = record t { order = with_at at r t.order; steps = older }
undone_by (Put first count ∷ older) t = record t { order = without_run first count t.order; steps = older }

abbrev pub undone : Ordered → Ordered
undone t = undone_by t.steps t

-- the row that the last step took out
abbrev pub last_taken : List Step → Option ℕ
last_taken [] = None
last_taken (Taken at r ∷ older) = Some r
last_taken (Put first count ∷ older) = None

abbrev pub forgotten : Ordered → Ordered
forgotten t = record t { steps = [] }

-- the row of a head, hidden or shown
abbrev pub with_hidden : Bool → BufferRow → BufferRow
with_hidden hidden (Head dir old) = Head dir hidden
with_hidden hidden (Line line) = Line line

-- the value with this number changed
abbrev pub with_value : (BufferRow → BufferRow) → ℕ → List BufferRow → List BufferRow
with_value f i [] = []
with_value f zero (v ∷ vs) = f v ∷ vs
with_value f (suc i) (v ∷ vs) = v ∷ with_value f i vs

-- the values of these rows, in their order
abbrev pub values_in : List BufferRow → List ℕ → List BufferRow
values_in values [] = []
values_in values (r ∷ rows) = value_at values r ++ values_in values rows

-- the rows from r on, or none where no row is named
abbrev pub from_row : ℕ → List ℕ → List ℕ
from_row r [] = []
from_row r (x ∷ xs) = if x == r then x ∷ xs else from_row r xs

abbrev pub rows_from : Option ℕ → List ℕ → List ℕ
rows_from None order = []
rows_from (Some r) order = from_row r order

-- the rows that these steps took out are not among these
abbrev pub AreOut : List ℕ → List Step → Type 0
AreOut order [] = Unit {0}
AreOut order (Taken at r ∷ steps) = (Contains order r → ⊥) × AreOut order steps
AreOut order (Put first count ∷ steps) = AreOut order steps
