-- Well-formed changes of a tree, as statements on the rows and the paths of the tree; and what the caller of a check keeps to.
use Rattle.std.specs.Prelude.{◌≡◌, ◌≢◌, ◌⊎◌, ℕ, ◌≤◌, ◌<◌, true, false, List, [], ◌∷◌, ◌++◌, length, All, Option, Some, ◌||◌, is_some, IsTrue, Contains}
use Rattle.std.specs.List.{AllPairs}
use Rattle.std.specs.FinMap.{get}
use Rattle.dired_text.specs.Paths.{Names, is_below, path_bytes, max_path_bytes}
use Rattle.tree_core.specs.declared.node.Node.{Node}
use Rattle.tree_core.specs.declared.node.Node.TheVariants as node
use Rattle.tree_core.specs.declared.node.Kind.{Kind}
use Rattle.tree_core.specs.declared.node.Kind.TheVariants as kind
use Rattle.tree_core.specs.declared.edit.Edit.{Edit}
use Rattle.tree_core.specs.declared.edit.Shown.{Shown}
use Rattle.tree_core.specs.declared.changes.Creation.{Creation}
use Rattle.tree_core.specs.declared.changes.Fresh.{Fresh}
use Rattle.tree_core.specs.declared.changes.Fresh.TheVariants as fresh
use Rattle.tree_core.specs.declared.changes.Changes.{Changes}
use Rattle.tree_core.specs.declared.changes.Changes.TheVariants.{Edits, Removals, Creations}
use Rattle.tree_core.specs.declared.changes.Confirmed.{Confirmed}
use Rattle.tree_core.specs.FileTree.{FileTree, IsAbsent, Stands, IsDir, IsMode, IsTarget}
use Rattle.edit_words.specs.declared.row.Row.{Row}
use Rattle.edit_words.specs.Place.{place, IsAbove}
use Rattle.edit_words.specs.Rows.{rows, is_source, route_of, written, is_elsewhere}
use Rattle.edit_words.specs.Refusals.{staging, is_confirmed, max_changed_bytes, changed_bytes}
use Rattle.edit_words.specs.Sight.{sight_of}

-- ---- What a line shows.

-- of the same kind, as a link with the same target, else of the same mode
abbrev pub ShowsNode : Shown → Node → Type 0
ShowsNode was (node.Dir mode) = (was.kind ≡ kind.Dir) × (was.mode ≡ mode)
ShowsNode was (node.Link target) = (was.kind ≡ kind.Link) × (was.target ≡ target)
ShowsNode was (node.File number bytes mode) = (was.kind ≡ kind.File) × (was.mode ≡ mode)

-- a line shows what stands at its source
abbrev pub IsShown : FileTree → Row → Type 0
IsShown t r = (s : Names) (was : Shown) → r.source ≡ Some s → r.was ≡ Some was → (n : Node) × (get t s ≡ Some n) × ShowsNode was n

-- ---- Lines that can't stand together.

abbrev pub IsStagedAt : Option Names → Type 0
IsStagedAt o = (p : Names) × (o ≡ Some p) × IsTrue (is_below staging p)

abbrev pub HasNumber : FileTree → Row → ℕ → Type 0
HasNumber t r number = (s : Names) × (bytes : List ℕ) × (mode : ℕ) × (r.source ≡ Some s) × (get t s ≡ Some (node.File number bytes mode))

abbrev pub IsMover : Row → Names → Type 0
IsMover r s = (r.source ≡ Some s) × IsTrue (is_some r.to)

-- ---- What would be replaced.

-- p is the victim of a row: it stands at the row's new path, and is the source of no row
abbrev pub IsVictimOf : FileTree → List Row → Row → Names → Type 0
IsVictimOf t rs r p = (r.to ≡ Some p) × Stands t p × (is_source rs p ≡ false)

-- ---- The whole.

-- No fault holds of a row.
pub record IsWellFormed (t : FileTree) (rs : List Row) : Type 0 where
  -- no commit is unfinished
  pub unstaged : IsAbsent t staging
  -- each line shows what stands at its source
  pub shown : (r : Row) → Contains rs r → IsShown t r
  -- no source or new path is in the staging directory
  pub unreserved : (r : Row) → Contains rs r → (IsStagedAt r.source ⊎ IsStagedAt r.to) → ⊥
  -- no two lines have one written path
  pub to_one : (r o : Row) → Contains rs r → Contains rs o → written r ≡ written o → r.line ≡ o.line
  -- the lines of one file name one mode
  pub modes : (r o : Row) (number m k : ℕ) → Contains rs r → Contains rs o → HasNumber t r number → HasNumber t o number → r.mode ≡ Some m → o.mode ≡ Some k → m ≡ k
  -- what stands above an elsewhere written path is a directory,
  pub parents : (r : Row) (u : Names) → Contains rs r → is_elsewhere r ≡ true → IsAbove u (written r) → Stands t u → IsDir t u
  -- which no line moves,
  pub unmoved : (r o : Row) (s : Names) → Contains rs r → Contains rs o → is_elsewhere r ≡ true → IsMover o s → IsAbove s (written r) → ⊥
  -- and what is missing there is written by no line
  pub untaken : (r o : Row) → Contains rs r → Contains rs o → is_elsewhere r ≡ true → IsAbove (written o) (written r) → Stands t (written o)
  -- no new place of a source is too long
  pub short : (r : Row) (s : Names) → Contains rs r → r.source ≡ Some s → path_bytes (place (route_of rs) s) ≤ max_path_bytes
  -- no directory is replaced
  pub replaceable : (r : Row) (p : Names) → Contains rs r → IsVictimOf t rs r p → IsDir t p → ⊥
  -- no directory with entries is removed
  pub removable : (r : Row) (p : Names) (n : List ℕ) → Contains rs r → r.removes ≡ true → r.source ≡ Some p → IsAbsent t (p ++ n ∷ [])

abbrev pub AreConfirmed : FileTree → Confirmed → List Row → Type 0
AreConfirmed t confirmed rs = (r : Row) (p : Names) → Contains rs r → IsVictimOf t rs r p → is_confirmed confirmed p ≡ true

-- what a check takes
pub record CanBeMade (t : FileTree) (confirmed : Confirmed) (rs : List Row) : Type 0 where
  pub well_formed : IsWellFormed t rs
  pub victims : AreConfirmed t confirmed rs
  pub fits : changed_bytes (sight_of t) rs ≤ max_changed_bytes

-- ---- What the caller of a check keeps to.

-- the lines rise
abbrev pub LinesRise : List Row → Type 0
LinesRise rs = AllPairs (λ (r o : Row). r.line < o.line) rs

abbrev pub HasOtherSource : Option Names → Option Names → Type 0
HasOtherSource a b = (p q : Names) → a ≡ Some p → b ≡ Some q → p ≢ q

abbrev pub SourcesDiffer : List Row → Type 0
SourcesDiffer rs = AllPairs (λ (r o : Row). HasOtherSource r.source o.source) rs

abbrev pub IsNoRoot : Row → Type 0
IsNoRoot r = (r.source ≢ Some []) × (r.to ≢ Some [])

abbrev pub IsLinkKind : Kind → Type 0
IsLinkKind k = k ≡ kind.Link

-- An edit asks for something: a new path, a new target or a new mode. Only a link has a new target, and only what is none has a
-- new mode; each is another one than before.
pub record IsEdit (e : Edit) : Type 0 where
  pub asks : IsTrue (is_some e.to || is_some e.target || is_some e.mode)
  pub to : e.to ≢ Some e.source
  pub target : (target : List ℕ) → e.target ≡ Some target → (e.was.kind ≡ kind.Link) × (target ≢ e.was.target) × IsTarget target
  pub mode : (mode : ℕ) → e.mode ≡ Some mode → (e.was.kind ≢ kind.Link) × (mode ≢ e.was.mode) × IsMode mode

-- the file of a hard link to be made
abbrev pub IsFreshIn : (Names → Type 0) → Fresh → Type 0
IsFreshIn is_file (fresh.Link target) = IsTarget target
IsFreshIn is_file (fresh.File bytes mode) = IsMode mode
IsFreshIn is_file (fresh.Same path) = is_file path

abbrev pub AreLawful : (Names → Type 0) → Changes → Type 0
AreLawful is_file (Edits edits) = All IsEdit edits
AreLawful is_file (Removals removals) = Unit {0}
AreLawful is_file (Creations creations) = All (λ (c : Creation). IsFreshIn is_file c.what) creations

-- the most changes of one commit
abbrev pub max_changes : ℕ
max_changes = 262144

-- What can be asked for, whatever stands in the tree, but for the paths of hard links.
pub record CanBeAsked (is_file : Names → Type 0) (changes : Changes) : Type 0 where
  pub lines : LinesRise (rows changes)
  pub sources : SourcesDiffer (rows changes)
  pub not_root : All IsNoRoot (rows changes)
  pub lawful : AreLawful is_file changes
  pub count : length (rows changes) ≤ max_changes

-- what can be asked for, whatever stands in the tree
abbrev pub AreAsked : Changes → Type 0
AreAsked changes = CanBeAsked (λ p. Unit {0}) changes

abbrev pub IsFileFor : (Names → Type 0) → Fresh → Type 0
IsFileFor is_file (fresh.Link target) = Unit {0}
IsFileFor is_file (fresh.File bytes mode) = Unit {0}
IsFileFor is_file (fresh.Same path) = is_file path

-- files stand at the paths of hard links
abbrev pub LinksHaveFiles : (Names → Type 0) → Changes → Type 0
LinksHaveFiles is_file (Edits edits) = Unit {0}
LinksHaveFiles is_file (Removals removals) = Unit {0}
LinksHaveFiles is_file (Creations creations) = All (λ (c : Creation). IsFileFor is_file c.what) creations
