-- The changes of a plan, and where they stand while it is made.
use Rattle.std.specs.Prelude.{ℕ, ◌≡◌, ◌+◌, Bool, true, false, ◌&&◌, not, List, [], ◌∷◌, ◌++◌, if◌then◌else◌, codes, Option, Some, None, set}
use Rattle.std.specs.List.{slice_get}
use Rattle.dired_text.specs.Paths.{Names}
use Rattle.commit_steps.specs.declared.step.Step.{Step}
use Rattle.commit_steps.specs.declared.step.Step.TheVariants.{Rename}
use Rattle.commit_steps.specs.Staging.{staged, numbered}
use Rattle.edit_words.specs.declared.row.Row.{Row}
use Rattle.edit_words.specs.Edited.{is_fresh}
use Rattle.edit_words.specs.Rows.{is_at, written}
use Rattle.plan_moves.specs.Waiting.{Waiting, deepest, waiting, is_ready, keeps_in_place}
use Rattle.plan_moves.specs.Moves.{Moves, Spots, fresh_spots}
use Rattle.commit_plan.specs.declared.names.Entry.{Entry}
use Rattle.commit_plan.specs.declared.names.Entry.TheVariants.{Temporary, Held, Fresh}
use Rattle.commit_plan.specs.declared.changes.Stand.{Stand}
use Rattle.commit_plan.specs.declared.changes.Stand.TheVariants.{Left, Waits}
use Rattle.commit_plan.specs.declared.changes.Change.{Change}

abbrev pub letter_of : Entry → List ℕ
letter_of Temporary = codes "t"
letter_of Held = codes "h"
letter_of Fresh = codes "f"

-- the most rows of a plan
abbrev pub max_rows : ℕ
max_rows = 262144

abbrev pub change : Row → Stand → Change
change r s = record { row = r; stand = s }

-- ---- where they stand at first; n is the number of the next entry that is made

abbrev pub first_stand_by : ℕ → Row → Option Names → Option Names → Stand
first_stand_by n r None to = Left
first_stand_by n r (Some s) None = Left
first_stand_by n r (Some s) (Some w) = Waits false s w

abbrev pub first_stand : ℕ → Row → Stand
first_stand n r = if is_fresh r then Waits true (staged (numbered (codes "f") n)) (written r) else first_stand_by n r r.source r.to

abbrev pub first_changes : ℕ → List Row → List Change
first_changes n [] = []
first_changes n (r ∷ rs) = change r (first_stand n r) ∷ first_changes (if is_fresh r then n + 1 else n) rs

-- ---- those that wait

abbrev pub wait_by : Row → Stand → List Waiting → List Waiting
wait_by r Left ws = ws
wait_by r (Waits away at to) ws = (record { row = r; is_away = away }) ∷ ws

abbrev pub waits_of : List Change → List Waiting
waits_of [] = []
waits_of (c ∷ cs) = wait_by c.row c.stand (waits_of cs)

-- a change that waits knows its written path, and waits at its source if not in the staging directory
abbrev pub IsSpelledAt : Row → Stand → Type 0
IsSpelledAt r Left = Unit {0}
IsSpelledAt r (Waits true at to) = to ≡ written r
IsSpelledAt r (Waits false at to) = (to ≡ written r) × (r.source ≡ Some at)

abbrev pub AreSpelled : List Change → Type 0
AreSpelled [] = Unit {0}
AreSpelled (c ∷ cs) = IsSpelledAt c.row c.stand × AreSpelled cs

-- each change has another line than those before it
abbrev pub HasLine : ℕ → List Change → Type 0
HasLine line cs = (k : ℕ) (c : Change) → slice_get cs k ≡ Some c → c.row.line ≡ line → ⊥

abbrev pub LinesApart : List Change → Type 0
LinesApart [] = Unit {0}
LinesApart (c ∷ cs) = HasLine c.row.line cs × LinesApart cs

-- whether it is ready

abbrev pub is_ready_by : List Waiting → Row → Stand → Bool
is_ready_by ws r Left = false
is_ready_by ws r (Waits away at to) = is_ready ws (record { row = r; is_away = away })

abbrev pub is_ready_in : List Waiting → Option Change → Bool
is_ready_in ws None = false
is_ready_in ws (Some c) = is_ready_by ws c.row c.stand

abbrev pub is_ready_at : List Change → ℕ → Bool
is_ready_at cs i = is_ready_in (waits_of cs) (slice_get cs i)

-- whether it waits at its source, which is p
abbrev pub is_source_by : Names → Row → Stand → Bool
is_source_by p r Left = false
is_source_by p r (Waits away at to) = not away && is_at p r.source

abbrev pub is_source_now : Names → Change → Bool
is_source_now p c = is_source_by p c.row c.stand

-- whether it keeps what is above it where it is, s
abbrev pub keeps_by : Names → Row → Stand → Bool
keeps_by s r Left = false
keeps_by s r (Waits away at to) = keeps_in_place s (record { row = r; is_away = away })

abbrev pub keeps_now : Names → Change → Bool
keeps_now s c = keeps_by s c.row c.stand

-- ---- what was moved

-- From the changes of these rows the steps lead to these changes, with n as the number of the next temporary name.
pub record Moved (rs : List Row) (n : ℕ) (cs : List Change) (steps : List Step) : Type 0 where
  pub spots : Spots
  pub stand : (i : ℕ) (r : Row) (at to : Names) → slice_get cs i ≡ Some (change r (Waits true at to)) → spots r.line ≡ at
  pub rest : (more : List Step) → Moves n spots (waits_of cs) more → Moves 0 (fresh_spots 0 rs) (waiting rs) (steps ++ more)

-- how many moves may follow
abbrev pub turns_by : Stand → ℕ
turns_by Left = 0
turns_by (Waits true at to) = 1
turns_by (Waits false at to) = 2

abbrev pub turns : List Change → ℕ
turns [] = 0
turns (c ∷ cs) = turns_by c.stand + turns cs

-- ---- the deepest

abbrev pub waits_at_source : Stand → Bool
waits_at_source Left = false
waits_at_source (Waits away at to) = not away

-- the change j of cs is the deepest of some of them
pub record IsBest (cs some : List Change) (j : ℕ) : Type 0 where
  pub row : Row
  pub at : Names
  pub to : Names
  pub is : slice_get cs j ≡ Some (change row (Waits false at to))
  pub best : deepest (waits_of some) ≡ Some (record { row = row; is_away = false })

-- ---- one move

-- The change i is carried out by this step.
pub record IsCarried (old : List Change) (i : ℕ) (new : List Change) (step : Step) : Type 0 where
  pub row : Row
  pub away : Bool
  pub at : Names
  pub to : Names
  pub was : slice_get old i ≡ Some (change row (Waits away at to))
  pub now : new ≡ set old i (change row Left)
  pub by : step ≡ Rename at to

-- The change i, which waited at its source, waits at this path now.
pub record IsPutAway (old : List Change) (i : ℕ) (spot : Names) (new : List Change) (step : Step) : Type 0 where
  pub row : Row
  pub at : Names
  pub to : Names
  pub was : slice_get old i ≡ Some (change row (Waits false at to))
  pub now : new ≡ set old i (change row (Waits true spot to))
  pub by : step ≡ Rename at spot

abbrev pub WaitsAtSource : List Change → ℕ → Type 0
WaitsAtSource cs i = (r : Row) × (at : Names) × (to : Names) × (slice_get cs i ≡ Some (change r (Waits false at to)))
