-- The lines and sections of a listing, by what a tree tells.
use Rattle.std.specs.Prelude.{◌≡◌, ℕ, ◌==◌, Bool, false, not, ◌&&◌, ◌||◌, nat_le, List, [], ◌∷◌, ◌++◌, map, Option, Some, None, if◌then◌else◌, codes, flat_map, IsPermutation, IsSorted}
use Rattle.std.specs.List.{filter_map}
use Rattle.std.specs.BTreeSet.{insert_key}
use Rattle.std.specs.FinMap.{get}
use Rattle.dired_text.specs.Paths.{Names, path_cmp, path_bytes, max_path_bytes}
use Rattle.tree_core.specs.declared.node.CallName.{CallName}
use Rattle.tree_core.specs.declared.meta.Meta.{Meta}
use Rattle.tree_core.specs.FileTree.{FileTree, is_dir_node}
use Rattle.tree_core.specs.Fields.{names_in}
use Rattle.listing_text.specs.Dates.{minute_of_second}
use Rattle.listing_text.specs.Listed.{section_text_of}
use Rattle.listing_text.specs.Order.{line_cmp}
use Rattle.listing_text.specs.declared.line.Line.{Line}
use Rattle.listing_text.specs.declared.switches.Switches.{Switches}
use Rattle.subdir_list.specs.declared.ends.ListEnd.{ListEnd}
use Rattle.subdir_list.specs.declared.ends.ListEnd.TheVariants.{NotDirectory, TreeFault, Memory}

-- a name that begins with a dot
abbrev pub is_hidden : List ℕ → Bool
is_hidden [] = false
is_hidden (b ∷ bs) = b == 46

-- what is listed of a directory: hidden names with the switch alone, and no path that is longer than a path may be
abbrev pub is_listed : Switches → Names → List ℕ → Bool
is_listed switches dir name = (switches.all || not (is_hidden name)) && nat_le (path_bytes (dir ++ name ∷ [])) max_path_bytes

-- the line of an entry with these fields
abbrev pub line_of_meta : List ℕ → Meta → Line
line_of_meta name meta = record {
  kind = meta.kind;
  mode = meta.mode;
  links = meta.links;
  owner = meta.owner;
  group = meta.group;
  size = meta.size;
  minute = minute_of_second meta.mtime;
  name = name;
  target = meta.target;
}

-- the line of a name in a directory, where it is listed
abbrev pub line_at : (Names → Meta) → Switches → Names → List ℕ → Option Line
line_at fields switches dir name = if is_listed switches dir name then Some (line_of_meta name (fields (dir ++ name ∷ []))) else None

-- a line for each name in a directory that is listed
abbrev pub lines_in : FileTree → (Names → Meta) → Switches → Names → List Line
lines_in t fields switches dir = filter_map (line_at fields switches dir) (names_in t dir)

-- the lines of a directory, in the order of the listing
pub record IsListed (switches : Switches) (t : FileTree) (fields : Names → Meta) (dir : Names) (lines : List Line) : Type 0 where
  pub each : IsPermutation (lines_in t fields switches dir) lines
  pub sorted : IsSorted (line_cmp switches) lines

-- lines without marks
abbrev pub unmarked : List Line → List (ℕ × Line)
unmarked lines = map (λ (line : Line). (32, line)) lines

-- the text of a directory's section
abbrev pub IsSection : Switches → FileTree → (Names → Meta) → Names → List ℕ → Type 0
IsSection switches t fields dir text = (lines : List Line) × IsListed switches t fields dir lines × (text ≡ section_text_of dir (unmarked lines))

-- the text of a listing with these sections, an empty line between two: each is a whole number of lines
abbrev pub listing_of : List (List ℕ) → List ℕ
listing_of sections = codes "dired 1" ++ flat_map (λ section. 10 ∷ section) sections

-- these paths and more, each once and in their order
abbrev pub paths_with : List Names → List Names → List Names
paths_with paths [] = paths
paths_with paths (more ∷ later) = paths_with (insert_key path_cmp paths more) later

-- the root and these directories, each once, in the order of their paths
abbrev pub listed_paths : List Names → List Names
listed_paths dirs = paths_with ([] ∷ []) dirs

-- one section for each of these directories
abbrev pub AreSections : Switches → FileTree → (Names → Meta) → List Names → List (List ℕ) → Type 0
AreSections switches t fields [] [] = Unit {0}
AreSections switches t fields (p ∷ paths) (section ∷ sections) = IsSection switches t fields p section × AreSections switches t fields paths sections
AreSections switches t fields [] (section ∷ sections) = ⊥
AreSections switches t fields (p ∷ paths) [] = ⊥

-- A listing: one section for the root and one for each of these directories, each once and no others.
abbrev pub IsListing : Switches → FileTree → (Names → Meta) → List Names → List ℕ → Type 0
IsListing switches t fields dirs text = (sections : List (List ℕ)) × AreSections switches t fields (listed_paths dirs) sections × (text ≡ listing_of sections)

-- the first of these directories at which no directory stands
abbrev pub first_other : FileTree → List Names → Option Names
first_other t [] = None
first_other t (dir ∷ dirs) = if is_dir_node (get t dir) then first_other t dirs else Some dir

-- the end is the refusal of this directory
abbrev pub Refuses : ListEnd → Option Names → Type 0
Refuses (NotDirectory dir) first = first ≡ Some dir
Refuses (TreeFault call) first = Unit {0}
Refuses Memory first = Unit {0}

-- the failed call of the tree that an end names
abbrev pub failed_call : ListEnd → Option CallName
failed_call (NotDirectory dir) = None
failed_call (TreeFault call) = Some call
failed_call Memory = None
