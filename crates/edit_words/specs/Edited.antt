-- The edited tree: one substitution on the map, without an order of work.
use Rattle.std.specs.Prelude.{◌≡◌, ◌⊎◌, ℕ, Bool, true, false, List, [], ◌∷◌, ◌++◌, map, filter, Option, Some, None, if◌then◌else◌, is_some, IsTrue, not, ◌&&◌, ◌||◌, ◌==◌, unwrap_or}
use Rattle.std.specs.List.{flat_map, zip, filter_map, AllZip, AllPairs}
use Rattle.std.specs.Option.{option_map}
use Rattle.std.specs.FinMap.{find, get, from_entries, entries}
use Rattle.dired_text.specs.Paths.{Names, path_cmp}
use Rattle.tree_core.specs.declared.node.Node.{Node}
use Rattle.tree_core.specs.declared.node.Node.TheVariants.{Dir, Link, File}
use Rattle.tree_core.specs.declared.changes.Changes.{Changes}
use Rattle.tree_core.specs.declared.changes.Changes.TheVariants.{Edits, Removals, Creations}
use Rattle.tree_core.specs.declared.changes.Fresh.{Fresh}
use Rattle.tree_core.specs.declared.changes.Fresh.TheVariants as fresh
use Rattle.tree_core.specs.FileTree.{FileTree}
use Rattle.edit_words.specs.declared.row.Row.{Row}
use Rattle.edit_words.specs.Place.{place, ancestors}
use Rattle.edit_words.specs.Rows.{row_from, route_of, is_kept, is_elsewhere, written}

abbrev pub Entries : Type 0
Entries = List (Names × Node)

-- ---- Paths taken to places, with entries added.

abbrev pub placed_entry : (Names → Names) → (Names → Node → Node) → Names × Node → Names × Node
placed_entry to shown e = (to e.0, shown e.0 e.1)

-- As a function: the paths that are kept, each at its place with what is shown there. What is added stands first.
abbrev pub placed_tree : Entries → (Names → Bool) → (Names → Names) → (Names → Node → Node) → FileTree → FileTree
placed_tree added keeps to shown t = from_entries (added ++ map (placed_entry to shown) (filter (λ (e : Names × Node). keeps e.0) (entries t)))

-- what stands at q came from a path that is kept
pub record Came (keeps : Names → Bool) (to : Names → Names) (shown : Names → Node → Node) (t : FileTree) (q : Names) (node : Node) : Type 0 where
  pub path : Names
  pub was : Node
  pub kept : keeps path ≡ true
  pub stood : get t path ≡ Some was
  pub here : to path ≡ q
  pub same : node ≡ shown path was

-- as a relation
pub record IsPlaced (added : Entries) (keeps : Names → Bool) (to : Names → Names) (shown : Names → Node → Node) (t new : FileTree) : Type 0 where
  pub added_stand : (q : Names) (node : Node) → find path_cmp q added ≡ Some node → get new q ≡ Some node
  pub stay : (p : Names) (node : Node) → keeps p ≡ true → get t p ≡ Some node → find path_cmp (to p) added ≡ None → get new (to p) ≡ Some (shown p node)
  pub only : (q : Names) (node : Node) → get new q ≡ Some node → IsTrue (is_some (find path_cmp q added)) ⊎ Came keeps to shown t q node

-- ---- What changes add.

abbrev pub stands : FileTree → Names → Bool
stands t p = is_some (get t p)

-- the directories that have to be made above written paths
abbrev pub missing : FileTree → List Row → List Names
missing t rs = filter (λ (p : Names). not (stands t p)) (flat_map (λ (r : Row). if is_elsewhere r then ancestors (written r) else []) rs)

-- a retargeted link, or a creation
abbrev pub is_fresh : Row → Bool
is_fresh r = r.retargets || not (is_some r.source)

abbrev pub fresh_place_of : (Names → Names) → Option Names → Row → Names
fresh_place_of to None r = written r
fresh_place_of to (Some s) r = to s

-- where their entries stand, by line
abbrev pub fresh_places : List Row → List Names
fresh_places rs = map (λ (r : Row). fresh_place_of (place (route_of rs)) r.source r) (filter is_fresh rs)

-- what they ask for, by line
abbrev pub asked_fresh : Changes → List Fresh
asked_fresh (Edits edits) = filter_map (λ e. option_map fresh.Link e.target) edits
asked_fresh (Removals removals) = []
asked_fresh (Creations creations) = map (λ c. c.what) creations

abbrev pub HasFileNumber : FileTree → ℕ → Type 0
HasFileNumber t number = (p : Names) × (bytes : List ℕ) × (mode : ℕ) × (get t p ≡ Some (File number bytes mode))

-- An entry is what was asked for: a link with its target, a file of a number that the tree hasn't, or what stands at a path.
abbrev pub IsMadeFor : FileTree → Fresh → Node → Type 0
IsMadeFor t (fresh.Link target) node = node ≡ Link target
IsMadeFor t (fresh.File bytes mode) node = (number : ℕ) × (node ≡ File number bytes mode) × (HasFileNumber t number → ⊥)
IsMadeFor t (fresh.Same path) node = get t path ≡ Some node

abbrev pub HasOtherNumber : FileTree → Node → Node → Type 0
HasOtherNumber t a b = (number : ℕ) (c d : List ℕ) (m k : ℕ) → a ≡ File number c m → b ≡ File number d k → HasFileNumber t number

-- The entries are what was asked for, one by one. The numbers of new files differ.
pub record AreMadeFor (t : FileTree) (changes : Changes) (entries : List Node) : Type 0 where
  pub each : AllZip (IsMadeFor t) (asked_fresh changes) entries
  pub numbers : AllPairs (HasOtherNumber t) entries

-- ---- New modes.

abbrev pub node_number : Option Node → Option ℕ
node_number None = None
node_number (Some (Dir mode)) = None
node_number (Some (Link target)) = None
node_number (Some (File number bytes mode)) = Some number

abbrev pub number_in : FileTree → Option Names → Option ℕ
number_in t None = None
number_in t (Some p) = node_number (get t p)

abbrev pub is_number : ℕ → Option ℕ → Bool
is_number n None = false
is_number n (Some m) = n == m

-- the mode that a change names for the file of this number
abbrev pub mode_named : FileTree → List Row → ℕ → Option ℕ
mode_named t [] number = None
mode_named t (r ∷ rs) number = if is_some r.mode && is_number number (number_in t r.source) then r.mode else mode_named t rs number

abbrev pub mode_of_row : Option Row → Option ℕ
mode_of_row None = None
mode_of_row (Some r) = r.mode

-- by file number, or for a directory
abbrev pub with_new_mode : FileTree → List Row → Names → Node → Node
with_new_mode t rs p (Dir mode) = Dir (unwrap_or (mode_of_row (row_from rs p)) mode)
with_new_mode t rs p (Link target) = Link target
with_new_mode t rs p (File number bytes mode) = File number bytes (unwrap_or (mode_named t rs number) mode)

-- ---- The edited tree.

-- the entries that are made, each at its place, and the missing directories with mode 0o755
abbrev pub added_by : FileTree → List Row → List Node → Entries
added_by t rs made = zip (fresh_places rs) made ++ map (λ (p : Names). (p, Dir 0o755)) (missing t rs)

-- Each path that is neither a victim nor removed goes to its new place with its entry.
abbrev pub edited : FileTree → List Row → List Node → FileTree
edited t rs made = placed_tree (added_by t rs made) (is_kept rs) (place (route_of rs)) (with_new_mode t rs) t

abbrev pub IsEdited : FileTree → List Row → List Node → FileTree → Type 0
IsEdited t rs made new = IsPlaced (added_by t rs made) (is_kept rs) (place (route_of rs)) (with_new_mode t rs) t new

-- a path of the tree that is neither a victim nor removed
abbrev pub StaysPath : FileTree → List Row → Names → Type 0
StaysPath t rs p = (is_kept rs p ≡ true) × IsTrue (stands t p)
