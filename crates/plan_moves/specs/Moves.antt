-- What a planner may do: ready changes in any order, and one to a temporary name where none is ready.
use Rattle.std.specs.Prelude.{◌≡◌, ℕ, ◌+◌, ◌==◌, true, List, [], ◌∷◌, None, Some, if◌then◌else◌, Contains, unwrap_or}
use Rattle.dired_text.specs.Paths.{Names}
use Rattle.commit_steps.specs.declared.step.Step.{Step}
use Rattle.commit_steps.specs.declared.step.Step.TheVariants.{Rename}
use Rattle.commit_steps.specs.Staging.{staged, temporary, fresh_name}
use Rattle.edit_words.specs.declared.row.Row.{Row}
use Rattle.edit_words.specs.Rows.{written}
use Rattle.edit_words.specs.Edited.{is_fresh}
use Rattle.plan_moves.specs.Waiting.{Waiting, is_ready, NoneReady, without, deepest, put_away}

-- Where the changes that are away stand, by their lines.
abbrev pub Spots : Type 0
Spots = ℕ → Names

-- where a change stands now: at its source, or at its spot
abbrev pub spot_of : Spots → Waiting → Names
spot_of spots w = if w.is_away then spots w.row.line else unwrap_or w.row.source []

abbrev pub with_spot : Spots → ℕ → Names → Spots
with_spot spots line path other = if other == line then path else spots other

-- the entries that are made, as `f0`, `f1` and so on by line; n is the number of the next one
abbrev pub fresh_spots : ℕ → List Row → Spots
fresh_spots n [] line = []
fresh_spots n (r ∷ rs) line = if is_fresh r then (if r.line == line then staged (fresh_name n) else fresh_spots (n + 1) rs line) else fresh_spots n rs line

-- The moves of the changes that wait, where n is the number of the next temporary name.
pub data Moves : ℕ → Spots → List Waiting → List Step → Type 0 where
  over : (n : ℕ) (spots : Spots) (ws : List Waiting) → NoneReady ws → deepest ws ≡ None → Moves n spots ws []
  -- any ready one to its written path
  carry : (n : ℕ) (spots : Spots) (ws : List Waiting) (w : Waiting) (steps : List Step) → Contains ws w → is_ready ws w ≡ true
      → Moves n spots (without w ws) steps → Moves n spots ws (Rename (spot_of spots w) (written w.row) ∷ steps)
  -- none is ready: the deepest one to a temporary name
  knot : (n : ℕ) (spots : Spots) (ws : List Waiting) (d : Waiting) (steps : List Step) → NoneReady ws → deepest ws ≡ Some d
      → Moves (n + 1) (with_spot spots d.row.line (staged (temporary n))) (put_away d ws) steps
      → Moves n spots ws (Rename (spot_of spots d) (staged (temporary n)) ∷ steps)
