-- How linked rows hold an order, and what is kept of the steps on it. List 0 has the order, list 1 the rows that are to be
-- put in, and list 2 those that were given up.
use Rattle.std.specs.Prelude.{◌≡◌, ℕ, ◌+◌, ◌-◌, ◌<◌, ◌≤◌, zero, suc, List, [], ◌∷◌, ◌++◌, length, map, nat_lt, if◌then◌else◌}
use Rattle.link_rows.specs.Net.{Net, AllBelow, IsList, last_of, next_of, nodes, prev_of}
use Rattle.link_rows.proofs.NetLemmas.{Misses}
use Rattle.section_rows.specs.declared.undo.Undo.{Undo}
use Rattle.section_rows.specs.declared.undo.Undo.TheVariants as kept
use Rattle.section_rows.specs.declared.row.BufferRow.{BufferRow}
use Rattle.section_rows.specs.Orders.{Ordered, Step, Taken, Put, run, place_of, with_at, without_run}

-- the node of a row, behind the heads of three lists
abbrev pub nodes_of : List ℕ → List ℕ
nodes_of rows = map (λ r. 3 + r) rows

-- so many nodes, each behind the last, from the one behind x on
abbrev pub walk : ℕ → Net → ℕ → List ℕ
walk zero s x = []
walk (suc n) s x = next_of s x ∷ walk n s (next_of s x)

-- the first rows of list 0
abbrev pub order_of : Net → ℕ → List ℕ
order_of s count = map (λ x. x - 3) (walk count s 0)

-- how many rows stand before what stands behind this node
abbrev pub place_behind : ℕ → List ℕ → ℕ
place_behind x order = if nat_lt x 3 then 0 else suc (place_of (x - 3) order)

-- what is kept, as steps on this order
abbrev pub steps_of : Net → List ℕ → List Undo → List Step
steps_of s order [] = []
steps_of s order (kept.Taken row ∷ older) =
    let at = place_behind (prev_of s (3 + row.0)) order in
    Taken at row.0 ∷ steps_of s (with_at at row.0 order) older
steps_of s order (kept.Put first count ∷ older) = Put first count ∷ steps_of s (without_run first count order) older

-- the first of these, or i where there is none
abbrev pub first_of : ℕ → List ℕ → ℕ
first_of i [] = i
first_of i (x ∷ xs) = x

-- what a clause sees of rows with this net, so many in order and so many to be put in
abbrev pub seen : Net → ℕ → ℕ → List BufferRow → List Undo → Ordered
seen s count built values steps = record { order = order_of s count; built = built; values = values; steps = steps_of s (order_of s count) steps }

-- the row r stood between the rows fs and gs, and stands nowhere
pub record IsGap (s : Net) (order others fs : List ℕ) (r : ℕ) (gs : List ℕ) : Type 0 where
  pub parts : order ≡ fs ++ gs
  pub place : place_behind (prev_of s (3 + r)) order ≡ length fs
  pub pushed : 3 + r < nodes s
  pub before : prev_of s (3 + r) ≡ last_of 0 (nodes_of fs)
  pub behind : next_of s (3 + r) ≡ first_of 0 (nodes_of gs)
  pub out : Misses r (order ++ others)

-- the rows of a run stand between the rows fs and gs
pub record IsIn (order fs : List ℕ) (first count : ℕ) (gs : List ℕ) : Type 0 where
  pub some : 0 < count
  pub parts : order ≡ fs ++ (run first count ++ gs)
  pub rest : without_run first count order ≡ fs ++ gs

-- These steps can be undone, the last first; the other rows stand in the other lists.
abbrev pub IsKept : Net → List ℕ → List ℕ → List Undo → Type 0
IsKept s order others [] = Unit {0}
IsKept s order others (kept.Taken row ∷ older) =
    (fs : List ℕ) × (gs : List ℕ) × (IsGap s order others fs row.0 gs × IsKept s (fs ++ row.0 ∷ gs) others older)
IsKept s order others (kept.Put first count ∷ older) =
    (fs : List ℕ) × (gs : List ℕ) × (IsIn order fs first count gs × IsKept s (fs ++ gs) (run first count ++ others) older)

-- the three lists hold these rows
pub record AreLists (s : Net) (rows new_rows dead_rows : List ℕ) : Type 0 where
  pub heads : s.heads ≡ 3
  pub order : IsList s 0 (nodes_of rows)
  pub new : IsList s 1 (nodes_of new_rows)
  pub dead : IsList s 2 (nodes_of dead_rows)

-- each of these rows is below n
abbrev pub AreBelow : ℕ → List Undo → Type 0
AreBelow n [] = Unit {0}
AreBelow n (kept.Taken row ∷ older) = (row.0 < n) × AreBelow n older
AreBelow n (kept.Put first count ∷ older) = AreBelow n older

-- with so many rows in order, so many to be put in, so many values, and room for so many steps
pub record IsHeld (s : Net) (many built len most : ℕ) (steps : List Undo) : Type 0 where
  pub order : List ℕ
  pub dead : List ℕ
  pub lists : AreLists s order (run (len - built) built) dead
  pub count : length order ≡ many
  pub few : built ≤ len
  pub below : AllBelow len order
  pub steps_below : AreBelow len steps
  pub kept : IsKept s order (run (len - built) built ++ dead) steps
  pub room : length steps + many + built + built ≤ most
