-- What may stand in the staging directory, and the tree without it.
use Rattle.std.specs.Prelude.{◌≡◌, ◌⊎◌, ℕ, ◌<◌, ◌^◌, List, Some, not}
use Rattle.std.specs.FinMap.{get, retain_keys}
use Rattle.dired_text.specs.Paths.{Names, is_below}
use Rattle.tree_core.specs.declared.node.Node.{Node}
use Rattle.tree_core.specs.declared.node.Node.TheVariants.{Dir, Link, File}
use Rattle.tree_core.specs.FileTree.{FileTree, IsEmptyAt}
use Rattle.commit_steps.specs.Staging.{staging, staged, temporary, held, fresh_name}

-- the tree without a path and all below it
abbrev pub without : Names → FileTree → FileTree
without p t = retain_keys t (λ q. not (is_below p q))

-- the tree without the staging directory
abbrev pub rest : FileTree → FileTree
rest t = without staging t

abbrev pub IsFileOrLink : Node → Type 0
IsFileOrLink (Dir mode) = ⊥
IsFileOrLink (Link target) = Unit {0}
IsFileOrLink (File number bytes mode) = Unit {0}

-- `tN`, whatever it is
pub record IsTemporary (name : List ℕ) : Type 0 where
  pub number : ℕ
  pub small : number < 2 ^ 32
  pub named : name ≡ temporary number

-- `hN`: a file, a link or an empty directory
pub record IsHeld (t : FileTree) (name : List ℕ) (node : Node) : Type 0 where
  pub number : ℕ
  pub small : number < 2 ^ 32
  pub named : name ≡ held number
  pub kind : IsFileOrLink node ⊎ IsEmptyAt t (staged name)

-- `fN`: a file or a link
pub record IsFresh (name : List ℕ) (node : Node) : Type 0 where
  pub number : ℕ
  pub small : number < 2 ^ 32
  pub named : name ≡ fresh_name number
  pub kind : IsFileOrLink node

-- each thing that stands in the staging directory has P
abbrev pub HoldsOnly : FileTree → (List ℕ → Node → Type 0) → Type 0
HoldsOnly t P = (name : List ℕ) (node : Node) → get t (staged name) ≡ Some node → P name node
