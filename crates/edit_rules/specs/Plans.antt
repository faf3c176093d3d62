-- What a plan of changes needs: what they replace, the directories that they make, and the modes that they change.
use Rattle.std.specs.Prelude.{◌≡◌, ℕ, ◌==◌, Bool, true, false, List, length, count_by, Option, Some, None, if◌then◌else◌}
use Rattle.std.specs.List.{flat_map, filter_map, list_any}
use Rattle.std.specs.List.Sorted.{IsSorted, IsStrictlySortedBy}
use Rattle.std.specs.Option.{option_map}
use Rattle.std.specs.Ordering.{nat_cmp, on, flip_args, then_cmp}
use Rattle.std.specs.declared.cmp.Ordering.{Ordering}
use Rattle.tree_core.specs.declared.edit.Shown.{Shown}
use Rattle.dired_text.specs.Paths.{Names, path_cmp}
use Rattle.edit_words.specs.declared.row.Row.{Row}
use Rattle.edit_words.specs.Refusals.{missing_above, victim_of}
use Rattle.edit_words.specs.Place.{place}
use Rattle.edit_words.specs.Rows.{is_same_path, line_where, route_of}
use Rattle.edit_words.specs.Sight.{Sight, number_at}
use Rattle.edit_rules.specs.Tables.{names_mode}

abbrev pub victim_line : Sight → List Row → Row → Option (ℕ × Names)
victim_line sight rs r = option_map (λ (p : Names). (r.line, p)) (victim_of sight rs r)

-- the victims, each with its line, in the order of the lines
abbrev pub victims_of : Sight → List Row → List (ℕ × Names)
victims_of sight rs = filter_map (victim_line sight rs) rs

-- These are the directories that have to be made, each once, in the order of paths.
pub record AreMissing (sight : Sight) (rs : List Row) (ps : List Names) : Type 0 where
  pub sorted : IsStrictlySortedBy path_cmp ps
  pub same : (p : Names) → list_any (is_same_path p) ps ≡ list_any (is_same_path p) (flat_map (missing_above sight) rs)

-- a new place, the mode there before and the new mode
abbrev pub ModeChange : Type 0
ModeChange = Names × ℕ × ℕ

abbrev pub is_line : ℕ → Option ℕ → Bool
is_line line None = false
is_line line (Some other) = other == line

-- of the lines that name a mode for one file the least names the place
abbrev pub names_place : Sight → List Row → Row → Option ℕ → Bool
names_place sight rs r None = true
names_place sight rs r (Some number) = is_line r.line (line_where (names_mode sight number) rs)

abbrev pub mode_change_by : List Row → Bool → Option Names → Option Shown → Option ℕ → Option ModeChange
mode_change_by rs names None was mode = None
mode_change_by rs names (Some source) None mode = None
mode_change_by rs names (Some source) (Some was) None = None
mode_change_by rs names (Some source) (Some was) (Some mode) = if names then Some (place (route_of rs) source, was.mode, mode) else None

abbrev pub mode_change_of : Sight → List Row → Row → Option ModeChange
mode_change_of sight rs r = mode_change_by rs (names_place sight rs r (number_at sight r.source)) r.source r.was r.mode

abbrev pub mode_changes : Sight → List Row → List ModeChange
mode_changes sight rs = filter_map (mode_change_of sight rs) rs

-- a place of more names comes first, and places of as many come in the order of paths
abbrev pub deepest_first : ModeChange → ModeChange → Ordering
deepest_first = then_cmp (flip_args (on (λ (m : ModeChange). length m.0) nat_cmp)) (on (λ (m : ModeChange). m.0) path_cmp)

-- These are the modes that change, each as often as lines change it, the deepest places first.
pub record AreModes (sight : Sight) (rs : List Row) (ms : List ModeChange) : Type 0 where
  pub sorted : IsSorted deepest_first ms
  pub same : (test : ModeChange → Bool) → count_by test ms ≡ count_by test (mode_changes sight rs)
