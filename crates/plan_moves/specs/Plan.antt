-- The steps of a plan, and their number.
use Rattle.std.specs.Prelude.{◌≡◌, ℕ, ◌+◌, Bool, List, [], ◌∷◌, ◌++◌, map, length, Option, Some, None, if◌then◌else◌, is_some, not, ◌&&◌, ◌||◌, count_by}
use Rattle.std.specs.List.{flat_map}
use Rattle.dired_text.specs.Paths.{Names}
use Rattle.commit_steps.specs.declared.step.Step.{Step}
use Rattle.commit_steps.specs.declared.step.Step.TheVariants.{MakeDir, Rename, Mode}
use Rattle.commit_steps.specs.Staging.{staged, held}
use Rattle.tree_core.specs.declared.changes.Changes.{Changes}
use Rattle.edit_words.specs.declared.row.Row.{Row}
use Rattle.edit_words.specs.Rows.{rows}
use Rattle.edit_words.specs.WellFormed.{AreAsked}
use Rattle.edit_words.specs.Refusals.{victim_of}
use Rattle.edit_words.specs.Sight.{Sight}
use Rattle.edit_words.specs.Edited.{is_fresh}
use Rattle.edit_rules.specs.Plans.{AreMissing, AreModes, ModeChange, mode_changes, victims_of}
use Rattle.plan_moves.specs.Waiting.{waiting, knots}
use Rattle.plan_moves.specs.Moves.{Moves, fresh_spots}

abbrev pub listed : Option Names → List Names
listed None = []
listed (Some p) = p ∷ []

-- a link that gets another target, or what is to be removed
abbrev pub is_given_up : Row → Bool
is_given_up r = r.retargets || r.removes

-- what a change puts aside: its victim, and then its source where that is given up
abbrev pub held_by : Sight → List Row → Row → List Names
held_by sight rs r = listed (victim_of sight rs r) ++ (if is_given_up r then listed r.source else [])

-- what is put aside, by line
abbrev pub held_paths : Sight → List Row → List Names
held_paths sight rs = flat_map (held_by sight rs) rs

-- each to the next name `hN`
abbrev pub holds : ℕ → List Names → List Step
holds n [] = []
holds n (p ∷ ps) = Rename p (staged (held n)) ∷ holds (n + 1) ps

abbrev pub mode_step : ModeChange → Step
mode_step m = Mode m.0 m.1 m.2

-- First what is put aside, then the directories that are made, then the moves, and the modes at last.
pub record IsPlan (sight : Sight) (rs : List Row) (steps : List Step) : Type 0 where
  pub dirs : List Names
  pub moves : List Step
  pub modes : List ModeChange
  pub missing : AreMissing sight rs dirs
  pub moved : Moves 0 (fresh_spots 0 rs) (waiting rs) moves
  pub changed : AreModes sight rs modes
  pub steps_are : steps ≡ holds 0 (held_paths sight rs) ++ (map MakeDir dirs ++ (moves ++ map mode_step modes))

-- an edit with a new path that isn't a retargeted link
abbrev pub is_moving : Row → Bool
is_moving r = is_some r.to && not (is_fresh r)

-- The number of steps: what is replaced, what is given up, the directories that are made, the moves, the entries that are made, the
-- modes that change, and the knots.
abbrev pub step_count : Sight → List Row → List Names → ℕ
step_count sight rs dirs =
    length (victims_of sight rs) + count_by is_given_up rs + length dirs + count_by is_moving rs + count_by is_fresh rs + length (mode_changes sight rs) + knots (waiting rs)

-- Every plan of changes that can be asked for has this number of steps.
abbrev pub PlansAreCounted : Type 0
PlansAreCounted = (sight : Sight) (changes : Changes) (steps : List Step) → AreAsked changes → (plan : IsPlan sight (rows changes) steps)
    → length steps ≡ step_count sight (rows changes) plan.dirs
