-- How a tree is kept in memory: slots by path, and the files by their numbers, so that hard links share one body.
use Rattle.std.specs.Prelude.{◌≡◌, ◌⊎◌, ◌-◌, ◌+◌, ℕ, zero, suc, ◌==◌, ◌<◌, nat_le, ◌^◌, min, ℤ, pos, Bool, true, false, ◌&&◌, List, [], ◌∷◌, ◌++◌, map, IsTrue, is_some, if◌then◌else◌, length, Option, Some, None, refl}
use Rattle.std.proofs.Common.{inl, inr}
use Rattle.std.specs.List.{filter}
use Rattle.std.specs.Option.{option_map}
use Rattle.std.specs.Ordering.{nat_cmp}
use Rattle.std.specs.FinMap.{FinMap, get, insert, remove, entries, from_entries}
use Rattle.std.specs.FinMap as map_of
use Rattle.std.specs.Coded.{Coded, code_by, coded×, coded⊎, coded_ℕ, coded_ℤ, coded_list}
use Rattle.std.specs.Str.{bytes_eq}
use Rattle.std.specs.declared.vec.Vec.{Vec}
use Rattle.dired_text.specs.Paths.{Names, path_cmp}
use Rattle.tree_core.specs.declared.node.Node.{Node}
use Rattle.tree_core.specs.declared.node.Node.TheVariants.{Dir, Link, File}
use Rattle.tree_core.specs.declared.node.Kind.{Kind}
use Rattle.tree_core.specs.declared.node.Kind.TheVariants as kind
use Rattle.tree_core.specs.FileTree.{FileTree}
use Rattle.mem_tree.specs.Mem.{is_same_path}
use Rattle.mem_tree.specs.Times.{Times}
use Rattle.mem_tree.specs.declared.slots.Content.{Content}
use Rattle.mem_tree.specs.declared.slots.Content.TheVariants as content
use Rattle.mem_tree.specs.declared.slots.Slot.{Slot}
use Rattle.mem_tree.specs.declared.files.FileBody.{FileBody}

abbrev pub Slots : Type 0
Slots = FinMap path_cmp Slot

abbrev pub Files : Type 0
Files = FinMap nat_cmp FileBody

-- the names of a key
abbrev pub placed : {Z : Type 0} → List (Vec (List ℕ) Z × Slot) → List (Names × Slot)
placed es = map (λ e. (e.0.items, e.1)) es

-- ---- what they stand for

-- a number without a body, which no tree in memory has, is an empty file
abbrev pub file_node : ℕ → Option FileBody → Node
file_node number None = File number [] 0
file_node number (Some body) = File number body.bytes body.mode

abbrev pub node_of : Files → Content → Node
node_of files (content.Dir mode) = Dir mode
node_of files (content.Link target) = Link target
node_of files (content.File number) = file_node number (get files number)

-- the tree whose paths have these slots
abbrev pub tree_in : Slots → Files → FileTree
tree_in slots files = from_entries (map (λ (e : Names × Slot). (e.0, node_of files e.1.content)) (entries slots))

abbrev pub time_at : Option Slot → ℤ
time_at None = pos 0
time_at (Some slot) = slot.mtime

abbrev pub times_in : Slots → Times
times_in slots q = time_at (get slots q)

-- these times, with another one at p
abbrev pub timed : Names → ℤ → Times → Times
timed p time times q = if is_same_path p q then time else times q

-- the parent of each path that has a slot has one
abbrev pub ParentsStand : Slots → Type 0
ParentsStand slots = (p : Names) (name : List ℕ) → IsTrue (is_some (get slots (p ++ name ∷ []))) → IsTrue (is_some (get slots p))

-- ---- counts

abbrev pub is_number : ℕ → Content → Bool
is_number n (content.Dir mode) = false
is_number n (content.Link target) = false
is_number n (content.File number) = n == number

abbrev pub content_kind : Content → Kind
content_kind (content.Dir mode) = kind.Dir
content_kind (content.Link target) = kind.Link
content_kind (content.File number) = kind.File

-- the target of a link; nothing of what isn't one
abbrev pub content_target : Content → List ℕ
content_target (content.Dir mode) = []
content_target (content.Link target) = target
content_target (content.File number) = []

abbrev pub content_number : Content → Option ℕ
content_number (content.Dir mode) = None
content_number (content.Link target) = None
content_number (content.File number) = Some number

-- how many paths have the file of this number
abbrev pub places_of : ℕ → Slots → ℕ
places_of number slots = length (filter (λ (e : Names × Slot). is_number number e.1.content) (entries slots))

abbrev pub positive : ℕ → Option ℕ
positive zero = None
positive (suc n) = Some (suc n)

-- each file that has a path has a body with the count of its paths, and no other body is kept
abbrev pub Counted : Slots → Files → Type 0
Counted slots files = (n : ℕ) → option_map (λ (body : FileBody). body.paths) (get files n) ≡ positive (places_of n slots)

-- The slots and files keep this tree with these times.
pub record Keep (slots : Slots) (files : Files) (t : FileTree) (when : Times) : Type 0 where
  pub tree : tree_in slots files ≡ t
  pub times : times_in slots ≡ when
  pub counted : Counted slots files

-- each file of the tree has a number below this one
abbrev pub FilesBelow : ℕ → FileTree → Type 0
FilesBelow next t = (p : Names) (number : ℕ) (bytes : List ℕ) (mode : ℕ) → get t p ≡ Some (File number bytes mode) → number < next

-- the number of a file, where one stands
abbrev pub file_number : Option Slot → Option ℕ
file_number None = None
file_number (Some slot) = content_number slot.content

-- ---- what is looked at

abbrev pub file_bytes : Option FileBody → List ℕ
file_bytes None = []
file_bytes (Some body) = body.bytes

abbrev pub file_paths : Option FileBody → ℕ
file_paths None = 0
file_paths (Some body) = body.paths

-- A file's link count as it is kept, at most the last value of 32 bits. Directories and links have 1.
abbrev pub links_in : Files → Content → ℕ
links_in files (content.Dir mode) = 1
links_in files (content.Link target) = 1
links_in files (content.File number) = min (file_paths (get files number)) (2 ^ 32 - 1)

-- ---- a file with one path more

-- the paths of this number are one more
abbrev pub raised_body : Option FileBody → ℕ → Files → Files
raised_body None number files = files
raised_body (Some body) number files = insert files number (record body { paths = body.paths + 1 })

abbrev pub with_path : ℕ → Files → Files
with_path number files = raised_body (get files number) number files

abbrev pub same_body : Option FileBody → List ℕ → ℕ → Bool
same_body None bytes mode = true
same_body (Some body) bytes mode = bytes_eq body.bytes bytes && body.mode == mode

-- whether no other file has the node's number
abbrev pub fits : Files → Node → Bool
fits files (Dir mode) = true
fits files (Link target) = true
fits files (File number bytes mode) = same_body (get files number) bytes mode

-- the files with one path more of this node
abbrev pub put_body : Option FileBody → ℕ → List ℕ → ℕ → Files → Files
put_body None number bytes mode files = insert files number (record { bytes = bytes; mode = mode; paths = 1 })
put_body (Some body) number bytes mode files = with_path number files

abbrev pub with_node : Node → Files → Files
with_node (Dir mode) files = files
with_node (Link target) files = files
with_node (File number bytes mode) files = put_body (get files number) number bytes mode files

-- ---- a change of one slot or body

abbrev pub changed_slot : Names → Content → Option Slot → Slots → Slots
changed_slot p content None slots = slots
changed_slot p content (Some slot) slots = insert slots p (record slot { content = content })

-- the slot there with another content, where there is one
abbrev pub with_content : Names → Content → Slots → Slots
with_content p content slots = changed_slot p content (get slots p) slots

abbrev pub changed_body : (FileBody → FileBody) → ℕ → Option FileBody → Files → Files
changed_body f number None files = files
changed_body f number (Some body) files = insert files number (f body)

-- the file of this number with another mode, where there is one
abbrev pub with_mode : ℕ → ℕ → Files → Files
with_mode number mode files = changed_body (λ body. record body { mode = mode }) number (get files number) files

-- the same with another count of paths
abbrev pub with_paths : ℕ → ℕ → Files → Files
with_paths number paths files = changed_body (λ body. record body { paths = paths }) number (get files number) files

abbrev pub less_one : ℕ → Option FileBody → Files → Files
less_one number None files = files
less_one number (Some body) files = if nat_le body.paths 1 then remove files number else with_paths number (body.paths - 1) files

-- the file of this number with one path less; without any it is gone
abbrev pub without_path : ℕ → Files → Files
without_path number files = less_one number (get files number) files

-- ---- codes

abbrev Parts : Type 0
Parts = ℕ ⊎ (List ℕ ⊎ ℕ)

abbrev to_parts : Content → Parts
to_parts (content.Dir mode) = inl mode
to_parts (content.Link target) = inr (inl target)
to_parts (content.File number) = inr (inr number)

abbrev from_parts : Parts → Content
from_parts (inl mode) = content.Dir mode
from_parts (inr (inl target)) = content.Link target
from_parts (inr (inr number)) = content.File number

pub same_parts : (c : Content) → from_parts (to_parts c) ≡ c
same_parts (content.Dir mode) = refl
same_parts (content.Link target) = refl
same_parts (content.File number) = refl

abbrev content_code : Coded Content
content_code = code_by Parts (coded⊎ coded_ℕ (coded⊎ (coded_list coded_ℕ) coded_ℕ)) to_parts from_parts same_parts

abbrev slot_code : Coded Slot
slot_code = code_by (Content × ℤ) (coded× content_code coded_ℤ) (λ s. (s.content, s.mtime)) (λ p. record { content = p.0; mtime = p.1 }) (λ _. refl)

abbrev pub slots_code : Coded Slots
slots_code = map_of.code (coded_list (coded_list coded_ℕ)) slot_code

abbrev body_code : Coded FileBody
body_code =
    code_by (List ℕ × (ℕ × ℕ)) (coded× (coded_list coded_ℕ) (coded× coded_ℕ coded_ℕ))
    (λ b. (b.bytes, (b.mode, b.paths))) (λ p. record { bytes = p.0; mode = p.1.0; paths = p.1.1 }) (λ _. refl)

abbrev pub files_code : Coded Files
files_code = map_of.code coded_ℕ body_code
