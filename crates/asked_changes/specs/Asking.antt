-- What changes have to be so that they can be asked for, one by one.
use Rattle.std.specs.Prelude.{◌≡◌, ◌≢◌, ℕ, List, Some, All}
use Rattle.tree_core.specs.declared.edit.Edit.{Edit}
use Rattle.tree_core.specs.declared.node.Kind.TheVariants as kind
use Rattle.tree_core.specs.declared.changes.Creation.{Creation}
use Rattle.tree_core.specs.declared.changes.Fresh.{Fresh}
use Rattle.tree_core.specs.declared.changes.Changes.{Changes}
use Rattle.tree_core.specs.FileTree.{IsMode, IsTarget}
use Rattle.edit_words.specs.WellFormed.{AreLawful, IsEdit, IsFreshIn}

-- a new target is lawful, another one than before, and that of a link
abbrev pub HasNewTarget : Edit → Type 0
HasNewTarget e = (target : List ℕ) → e.target ≡ Some target → (e.was.kind ≡ kind.Link) × (target ≢ e.was.target) × IsTarget target

-- a new mode is lawful, another one than before, and that of no link
abbrev pub HasNewMode : Edit → Type 0
HasNewMode e = (mode : ℕ) → e.mode ≡ Some mode → (e.was.kind ≢ kind.Link) × (mode ≢ e.was.mode) × IsMode mode

-- whatever stands at the path of a hard link
abbrev pub IsLawfulFresh : Fresh → Type 0
IsLawfulFresh fresh = IsFreshIn (λ p. Unit {0}) fresh

abbrev pub AreLawfulChanges : Changes → Type 0
AreLawfulChanges changes = AreLawful (λ p. Unit {0}) changes
