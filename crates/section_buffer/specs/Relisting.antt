-- Sections that are listed again.
use Rattle.std.specs.Prelude.{◌≡◌, ◌∷◌, [], Bool, List, filter, map, if◌then◌else◌}
use Rattle.std.specs.List.Sorted.{IsStrictlySortedBy}
use Rattle.std.specs.BTreeMap.{insert_entry}
use Rattle.std.specs.FinMap.{get}
use Rattle.dired_text.specs.Paths.{Names, path_cmp}
use Rattle.listing_text.specs.declared.switches.Switches.{Switches}
use Rattle.subdir_list.specs.Listings.{IsListed}
use Rattle.tree_core.specs.FileTree.{FileTree, is_dir_node}
use Rattle.tree_core.specs.declared.meta.Meta.{Meta}
use Rattle.section_buffer.specs.declared.section.Section.{Section}
use Rattle.section_buffer.specs.Buffers.{BufferState}
use Rattle.section_buffer.specs.Places.{same_names}

-- each pair is where a file stood, and where it stands now
abbrev pub Moves : Type 0
Moves = List (Names × Names)

-- where a directory stands now: what the first pair says that is of it, or where it stood
abbrev pub dir_after : Moves → Names → Names
dir_after [] dir = dir
dir_after (move ∷ moved) dir = if same_names move.0 dir then move.1 else dir_after moved dir

-- a directory whose section is to be listed, and whether its lines are hidden
abbrev pub Place : Type 0
Place = Names × Bool

-- these places and those of more sections, in path order
abbrev pub places_with : Moves → List Place → List Section → List Place
places_with moved places [] = places
places_with moved places (section ∷ sections) = places_with moved (insert_entry path_cmp places (dir_after moved section.dir) section.hidden) sections

-- where the sections stand now, in path order
abbrev pub places_after : Moves → List Section → List Place
places_after moved sections = places_with moved [] sections

-- those of these places at which a directory stands
abbrev pub standing : FileTree → List Place → List Place
standing t places = filter (λ (place : Place). is_dir_node (get t place.0)) places

-- a section for each of these places, with the lines that the tree gives of its directory
abbrev pub AreListed : Switches → FileTree → (Names → Meta) → List Place → List Section → Type 0
AreListed switches t fields [] [] = Unit {0}
AreListed switches t fields [] (section ∷ sections) = ⊥
AreListed switches t fields (place ∷ places) [] = ⊥
AreListed switches t fields (place ∷ places) (section ∷ sections) =
    (section.dir ≡ place.0) × (section.hidden ≡ place.1) × IsListed switches t fields place.0 section.lines × AreListed switches t fields places sections

abbrev pub dirs_of : List Section → List Names
dirs_of sections = map (λ (section : Section). section.dir) sections

-- A buffer with these switches, of sections in path order, of which nothing can be undone. No two are of one directory.
pub record IsRelisted (switches : Switches) (b : BufferState) : Type 0 where
  pub switches_are : b.switches ≡ switches
  pub in_order : IsStrictlySortedBy path_cmp (dirs_of b.sections)
  pub no_events : b.events ≡ []

-- the root stays where it is
abbrev pub RootStays : Moves → Type 0
RootStays moved = dir_after moved [] ≡ []

-- the first of these places is the root
abbrev pub IsRootPlace : List Place → Type 0
IsRootPlace [] = ⊥
IsRootPlace (place ∷ places) = place.0 ≡ []
