-- What was read besides a journal.
use Rattle.std.specs.Prelude.{◌≡◌, ℕ, Bool, true, false, List, [], ◌∷◌, ◌++◌, map, Option, Some, None, if◌then◌else◌}
use Rattle.commit_recover.specs.declared.items.Part.{Part}
use Rattle.commit_recover.specs.declared.items.Part.TheVariants.{Entries, Marker as TheMarker}
use Rattle.commit_states.specs.Calls.{Items}
use Rattle.commit_steps.specs.Staging.{staged}
use Rattle.dired_text.specs.Paths.{Names}
use Rattle.recovery_calls.specs.declared.closing.Item.{Item}
use Rattle.recovery_start.specs.declared.leftovers.Leftovers.{Leftovers}
use Rattle.staging_names.specs.declared.standing.Found.{Found}
use Rattle.staging_names.specs.declared.staged_name.StagedName.{StagedName}
use Rattle.staging_names.specs.declared.staged_name.StagedName.TheVariants.{New, Journal, Marker, Entry, Other}
use Rattle.tree_core.specs.declared.node.Kind.{Kind}
use Rattle.tree_core.specs.declared.node.Kind.TheVariants as kind

abbrev pub is_entry_name : StagedName → Bool
is_entry_name New = false
is_entry_name (Journal j) = false
is_entry_name (Marker m) = false
is_entry_name (Entry e) = true
is_entry_name Other = false

abbrev pub is_marker_name : StagedName → Bool
is_marker_name New = false
is_marker_name (Journal j) = false
is_marker_name (Marker m) = true
is_marker_name (Entry e) = false
is_marker_name Other = false

abbrev pub is_dir_kind : Option Kind → Bool
is_dir_kind None = false
is_dir_kind (Some kind.File) = false
is_dir_kind (Some kind.Dir) = true
is_dir_kind (Some kind.Link) = false

-- those of these names that stand for such, each with whether it is a directory
abbrev pub items_by : (StagedName → Bool) → List (List ℕ) → List Found → Items
items_by p [] fs = []
items_by p (n ∷ ns) [] = []
items_by p (n ∷ ns) (f ∷ fs) = if p f.name then (n, is_dir_kind f.kind) ∷ items_by p ns fs else items_by p ns fs

-- the entries in the order of their names, and then the marker
abbrev pub other_items : Leftovers → Items
other_items l = items_by is_entry_name l.names.items l.found.items ++ items_by is_marker_name l.names.items l.found.items

-- of this part
abbrev pub is_of : Part → StagedName → Bool
is_of Entries name = is_entry_name name
is_of TheMarker name = is_marker_name name

-- with their paths
abbrev pub placed : Items → List (Names × Bool)
placed xs = map (λ x. (staged x.0, x.1)) xs

abbrev pub pairs : List Item → List (Names × Bool)
pairs items = map (λ i. (i.path, i.is_dir)) items

abbrev pub AreItems : Items → List Item → Type 0
AreItems xs items = pairs items ≡ placed xs
