-- What a check hands on.
use Rattle.std.specs.Prelude.{◌≡◌, ◌⊎◌, nat_le, ◌&&◌, List, Option, Some, None, if◌then◌else◌}
use Rattle.dired_text.specs.Paths.{Names, path_bytes, max_path_bytes}
use Rattle.tree_core.specs.declared.changes.Confirmed.{Confirmed}
use Rattle.edit_words.specs.declared.row.Row.{Row}
use Rattle.edit_words.specs.declared.fault.CheckFault.{CheckFault}
use Rattle.edit_words.specs.Place.{place}
use Rattle.edit_words.specs.Refusals.{refusal}
use Rattle.edit_words.specs.Sight.{Sight}
use Rattle.edit_looks.specs.Looks.{IsStaleIn}
use Rattle.edit_words.specs.Rows.{route_of, is_kept}

-- The new place of a path that stands; none where it is a victim, is removed, or would have more than 4,095 bytes.
abbrev pub new_place_of : List Row → Names → Option Names
new_place_of rs p = if is_kept rs p && nat_le (path_bytes (place (route_of rs) p)) max_path_bytes then Some (place (route_of rs) p) else None

-- How a check refuses, whatever the tree tells: for want of memory, with a failed call that it names, with a line of these that is
-- stale, or as the changes are refused by something that can be seen.
abbrev pub IsAnswer : Confirmed → List Row → CheckFault → Type 0
IsAnswer confirmed rs fault = IsStaleIn rs fault ⊎ ((s : Sight) × (refusal s confirmed rs ≡ Some fault))
