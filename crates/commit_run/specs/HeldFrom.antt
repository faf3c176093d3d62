-- What is put aside, as the victims come with their lines.
use Rattle.std.specs.Prelude.{ℕ, Bool, false, List, [], ◌∷◌, ◌++◌, if◌then◌else◌}
use Rattle.dired_text.specs.Paths.{Names}
use Rattle.commit_plan.specs.Holding.{victims_at, victims_past}
use Rattle.edit_words.specs.declared.row.Row.{Row}
use Rattle.plan_fits.specs.HeldKinds.{shows_dir, with_kind}
use Rattle.plan_moves.specs.Plan.{is_given_up, listed}

-- a source that is given up, with its kind
abbrev pub given_by : Row → List (Names × Bool)
given_by r = if is_given_up r then with_kind (shows_dir r.was) (listed r.source) else []

-- each with whether it is a directory
abbrev pub kinds_from : List (ℕ × Names) → List Row → List (Names × Bool)
kinds_from vs [] = []
kinds_from vs (r ∷ rs) = (with_kind false (victims_at r.line vs) ++ given_by r) ++ kinds_from (victims_past r.line vs) rs
