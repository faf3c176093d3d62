-- Changes as rows of one form, and the words on them.
use Rattle.std.specs.Prelude.{ℕ, Bool, true, false, List, [], ◌∷◌, map, Option, Some, None, if◌then◌else◌, is_some, not, ◌&&◌, ◌||◌}
use Rattle.std.specs.List.{list_any, find}
use Rattle.std.specs.Option.{option_map}
use Rattle.std.specs.Ordering.{eq_by_cmp}
use Rattle.dired_text.specs.Paths.{Names, path_cmp, parent}
use Rattle.tree_core.specs.declared.edit.Edit.{Edit}
use Rattle.tree_core.specs.declared.changes.Removal.{Removal}
use Rattle.tree_core.specs.declared.changes.Creation.{Creation}
use Rattle.tree_core.specs.declared.changes.Changes.{Changes}
use Rattle.tree_core.specs.declared.changes.Changes.TheVariants.{Edits, Removals, Creations}
use Rattle.edit_words.specs.declared.row.Row.{Row}
use Rattle.edit_words.specs.declared.row.Route.{Route}
use Rattle.edit_words.specs.declared.row.Route.TheVariants.{Stays, Named, Sent}

abbrev pub edit_row : Edit → Row
edit_row e = record { line = e.line; source = Some e.source; was = Some e.was; to = e.to; retargets = is_some e.target; mode = e.mode; removes = false }

abbrev pub removal_row : Removal → Row
removal_row r = record { line = r.line; source = Some r.path; was = Some r.was; to = None; retargets = false; mode = None; removes = true }

abbrev pub creation_row : Creation → Row
creation_row c = record { line = c.line; source = None; was = None; to = Some c.to; retargets = false; mode = None; removes = false }

-- the changes, in the order of their lines
abbrev pub rows : Changes → List Row
rows (Edits edits) = map edit_row edits
rows (Removals removals) = map removal_row removals
rows (Creations creations) = map creation_row creations

-- ---- words of changes

abbrev pub is_same_path : Names → Names → Bool
is_same_path p q = eq_by_cmp path_cmp p q

abbrev pub is_at : Names → Option Names → Bool
is_at p None = false
is_at p (Some q) = is_same_path p q

-- the change of this source
abbrev pub row_from : List Row → Names → Option Row
row_from rs p = find (λ (r : Row). is_at p r.source) rs

abbrev pub is_source : List Row → Names → Bool
is_source rs p = is_some (row_from rs p)

abbrev pub written_of : Option Names → Option Names → Names
written_of source (Some w) = w
written_of (Some s) None = s
written_of None None = []

-- the written path: the new path, or the source where there is none
abbrev pub written : Row → Names
written r = written_of r.source r.to

abbrev pub is_elsewhere_of : Option Names → Option Names → Bool
is_elsewhere_of source None = false
is_elsewhere_of None (Some w) = true
is_elsewhere_of (Some s) (Some w) = not (is_same_path (parent s) (parent w))

-- whether it is elsewhere: a new path outside its directory, or a creation
abbrev pub is_elsewhere : Row → Bool
is_elsewhere r = is_elsewhere_of r.source r.to

abbrev pub last_name : Names → List ℕ
last_name [] = []
last_name (n ∷ []) = n
last_name (n ∷ m ∷ p) = last_name (m ∷ p)

abbrev pub route_to : Names → Option Names → Route
route_to p None = Stays
route_to p (Some w) = if is_same_path (parent p) (parent w) then Named (last_name w) else Sent w

abbrev pub route_by : Names → Option Row → Route
route_by p None = Stays
route_by p (Some r) = route_to p r.to

-- what the changes make of this path
abbrev pub route_of : List Row → Names → Route
route_of rs p = route_by p (row_from rs p)

-- whether a change has this new path
abbrev pub is_written : List Row → Names → Bool
is_written rs p = list_any (λ (r : Row). is_at p r.to) rs

-- of what stands, the victims are the new paths that are no source
abbrev pub is_victim : List Row → Names → Bool
is_victim rs p = is_written rs p && not (is_source rs p)

abbrev pub is_removed : List Row → Names → Bool
is_removed rs p = list_any (λ (r : Row). r.removes && is_at p r.source) rs

-- whether a path stays in the tree: it is neither a victim nor removed
abbrev pub is_kept : List Row → Names → Bool
is_kept rs p = not (is_victim rs p || is_removed rs p)

-- the line of the first row that passes, which is the least such line as lines rise
abbrev pub line_where : (Row → Bool) → List Row → Option ℕ
line_where test rs = option_map (λ (r : Row). r.line) (find test rs)
