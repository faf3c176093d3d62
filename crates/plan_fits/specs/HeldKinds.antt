-- What a commit puts aside, each with its number and its kind, as the lines of the changes tell it.
use Rattle.std.specs.Prelude.{ℕ, ◌+◌, Bool, true, false, List, [], ◌∷◌, ◌++◌, map, Option, Some, None, if◌then◌else◌}
use Rattle.std.specs.List.{flat_map}
use Rattle.dired_text.specs.Paths.{Names}
use Rattle.tree_core.specs.declared.edit.Shown.{Shown}
use Rattle.tree_core.specs.declared.node.Kind.{Kind}
use Rattle.tree_core.specs.declared.node.Kind.TheVariants as kind
use Rattle.commit_states.specs.declared.held.Held.{Held}
use Rattle.edit_words.specs.declared.row.Row.{Row}
use Rattle.edit_words.specs.Refusals.{victim_of}
use Rattle.edit_words.specs.Sight.{Sight}
use Rattle.plan_moves.specs.Plan.{is_given_up, listed}

abbrev pub is_dir_kind : Kind → Bool
is_dir_kind kind.File = false
is_dir_kind kind.Dir = true
is_dir_kind kind.Link = false

-- a line shows a directory
abbrev pub shows_dir : Option Shown → Bool
shows_dir None = false
shows_dir (Some was) = is_dir_kind was.kind

abbrev pub with_kind : Bool → List Names → List (Names × Bool)
with_kind is_dir ps = map (λ (p : Names). (p, is_dir)) ps

-- What a change puts aside, each with whether it is a directory: its victim, which is none, and then its source where that is given
-- up, as its line shows it.
abbrev pub kinds_by : Sight → List Row → Row → List (Names × Bool)
kinds_by sight rs r = with_kind false (listed (victim_of sight rs r)) ++ (if is_given_up r then with_kind (shows_dir r.was) (listed r.source) else [])

-- by line
abbrev pub held_kinds : Sight → List Row → List (Names × Bool)
held_kinds sight rs = flat_map (kinds_by sight rs) rs

-- under the names `hN`, from n on
abbrev pub numbered : ℕ → List (Names × Bool) → List Held
numbered n [] = []
numbered n (x ∷ xs) = record { number = n; is_dir = x.1 } ∷ numbered (n + 1) xs

-- what changes put aside
abbrev pub held_of : Sight → List Row → List Held
held_of sight rs = numbered 0 (held_kinds sight rs)
