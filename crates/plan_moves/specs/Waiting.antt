-- The changes that wait, which of them are ready, and how often none is: the knots.
use Rattle.std.specs.Prelude.{◌≡◌, ℕ, zero, suc, ◌+◌, ◌==◌, Bool, true, false, List, [], ◌∷◌, map, filter, length, Option, Some, None, if◌then◌else◌, is_some, not, ◌&&◌, ◌||◌, nat_lt, Contains}
use Rattle.std.specs.List.{list_any}
use Rattle.std.specs.Ordering.{is_lt}
use Rattle.dired_text.specs.Paths.{Names, path_cmp}
use Rattle.edit_words.specs.declared.row.Row.{Row}
use Rattle.edit_words.specs.Place.{is_above}
use Rattle.edit_words.specs.Rows.{written, is_at, is_elsewhere}
use Rattle.edit_words.specs.Edited.{is_fresh}

-- A change that waits: at its source, or away in the staging directory.
pub record Waiting : Type 0 where
  pub row : Row
  pub is_away : Bool

-- At first each edit with a new path waits at its source; a retargeted link and a creation wait in the staging directory.
abbrev pub waiting : List Row → List Waiting
waiting [] = []
waiting (r ∷ rs) = if is_fresh r || is_some r.to then (record { row = r; is_away = is_fresh r }) ∷ waiting rs else waiting rs

-- those that wait at their sources
abbrev pub at_sources : List Waiting → List Waiting
at_sources ws = filter (λ (w : Waiting). not w.is_away) ws

-- the lines of the changes that wait are different
abbrev pub HasDifferentLines : List Waiting → Type 0
HasDifferentLines [] = Unit {0}
HasDifferentLines (w ∷ ws) = ((v : Waiting) → Contains ws v → v.row.line ≡ w.row.line → ⊥) × HasDifferentLines ws

-- ---- Which are ready.

-- no edit waits at its source at p
abbrev pub is_free : List Waiting → Names → Bool
is_free ws p = not (list_any (λ (v : Waiting). not v.is_away && is_at p v.row.source) ws)

-- p is strictly above the source
abbrev pub is_above_source : Names → Option Names → Bool
is_above_source p None = false
is_above_source p (Some q) = is_above p q

-- an edit with a source, whose written path is in the source's directory
abbrev pub is_in_place : Row → Bool
is_in_place r = is_some r.source && not (is_elsewhere r)

-- A change keeps what is above it where it is, s: it waits at a source below s, or in the staging directory, to be written in place below s.
abbrev pub keeps_in_place : Names → Waiting → Bool
keeps_in_place s v = (not v.is_away && is_above_source s v.row.source) || (v.is_away && is_in_place v.row && is_above s (written v.row))

abbrev pub is_unkept : List Waiting → Option Names → Bool
is_unkept ws None = true
is_unkept ws (Some s) = not (list_any (keeps_in_place s) ws)

-- A change is ready where its written path is free, and, if it waits at its source, nothing below keeps it there.
abbrev pub is_ready : List Waiting → Waiting → Bool
is_ready ws w = is_free ws (written w.row) && (w.is_away || is_unkept ws w.row.source)

abbrev pub NoneReady : List Waiting → Type 0
NoneReady ws = (w : Waiting) → Contains ws w → is_ready ws w ≡ false

-- ---- Which one makes room where none is ready.

-- a source of more names comes first, and sources of as many in the order of paths
abbrev pub is_before : Option Names → Option Names → Bool
is_before None q = false
is_before (Some p) None = true
is_before (Some p) (Some q) = nat_lt (length q) (length p) || (length p == length q && is_lt (path_cmp p q))

abbrev pub deeper : Waiting → Option Waiting → Waiting
deeper w None = w
deeper w (Some v) = if is_before w.row.source v.row.source then w else v

-- of the edits at their sources the one whose source has most names, the first of these in the order of paths
abbrev pub deepest : List Waiting → Option Waiting
deepest [] = None
deepest (w ∷ ws) = if w.is_away then deepest ws else Some (deeper w (deepest ws))

-- all but the change of this line
abbrev pub without : Waiting → List Waiting → List Waiting
without w ws = filter (λ (v : Waiting). not (v.row.line == w.row.line)) ws

-- the change of this line waits in the staging directory
abbrev pub put_away : Waiting → List Waiting → List Waiting
put_away w ws = map (λ (v : Waiting). if v.row.line == w.row.line then record v { is_away = true } else v) ws

-- ---- The knots: how often none is ready where all ready ones are carried out at once.

abbrev pub unready : List Waiting → List Waiting
unready ws = filter (λ (w : Waiting). not (is_ready ws w)) ws

abbrev pub knots_from : (List Waiting → ℕ) → List Waiting → Option Waiting → ℕ
knots_from next ws None = 0
knots_from next ws (Some d) = 1 + next (put_away d ws)

-- Each turn takes a change away or puts one into the staging directory, so two turns for each that waits are enough.
abbrev pub knots_by : ℕ → List Waiting → ℕ
knots_by zero ws = 0
knots_by (suc turns) ws = if list_any (is_ready ws) ws then knots_by turns (unready ws) else knots_from (knots_by turns) ws (deepest ws)

abbrev pub knots : List Waiting → ℕ
knots ws = knots_by (length ws + length ws) ws

-- the same as a relation, which needs no bound
pub data Knots : List Waiting → ℕ → Type 0 where
  none : (ws : List Waiting) → NoneReady ws → deepest ws ≡ None → Knots ws 0
  ready : (ws : List Waiting) (k : ℕ) → list_any (is_ready ws) ws ≡ true → Knots (unready ws) k → Knots ws k
  stuck : (ws : List Waiting) (d : Waiting) (k : ℕ) → NoneReady ws → deepest ws ≡ Some d → Knots (put_away d ws) k → Knots ws (k + 1)
