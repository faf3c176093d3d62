-- Steps that lead from an old tree to an edited one.
use Rattle.std.specs.Prelude.{◌≡◌, ◌⊎◌, ℕ, ◌+◌, List, [], ◌∷◌, take, Option, Some, None}
use Rattle.std.specs.FinMap.{get, insert}
use Rattle.tree_core.specs.declared.node.Node.{Node}
use Rattle.tree_core.specs.declared.node.Node.TheVariants.{Dir, Link, File}
use Rattle.tree_core.specs.FileTree.{FileTree, IsDir, IsTree}
use Rattle.commit_steps.specs.declared.step.Step.{Step}
use Rattle.commit_steps.specs.declared.step.Step.TheVariants.{MakeDir, Rename, Mode}
use Rattle.commit_steps.specs.Staging.{staging, staged, fresh_name}
use Rattle.commit_steps.specs.Steps.{IsLawfulStep}
use Rattle.step_trees.specs.Entries.{rest, IsTemporary, IsHeld, IsFresh, HoldsOnly}
use Rattle.step_trees.specs.Steps.{step_done, after, IsBefore}
use Rattle.step_trees.specs.Groups.{groups}

-- the fresh entries in the staging directory, as `fN` and so on
abbrev pub with_fresh : ℕ → List Node → FileTree → FileTree
with_fresh n [] t = t
with_fresh n (node ∷ nodes) t = with_fresh (n + 1) nodes (insert t (staged (fresh_name n)) node)

-- the old tree with a staging directory that holds the fresh entries, from `f0` on, and nothing else
abbrev pub start : FileTree → List Node → FileTree
start old fresh = with_fresh 0 fresh (insert old staging (Dir 0o700))

-- the tree with the first k steps done
abbrev pub at_place : List Step → FileTree → List Node → ℕ → FileTree
at_place steps old fresh k = after (take k steps) (start old fresh)

-- it is a tree whose staging directory stands, and holds only entries of their kinds
pub record HoldsEntries (t : FileTree) : Type 0 where
  pub tree : IsTree t
  pub stands : IsDir t staging
  pub only : HoldsOnly t (λ name node. IsTemporary name ⊎ (IsHeld t name node ⊎ IsFresh name node))

-- the last tree: but for the staging directory it is the edited one, and that holds only what is to be removed
pub record Ends (new t : FileTree) : Type 0 where
  pub is : rest t ≡ new
  pub only : HoldsOnly t (IsHeld t)

-- each step is lawful and before; each tree on the way holds only entries; the last one is the edited tree
abbrev pub LeadsFrom : FileTree → List Step → FileTree → Type 0
LeadsFrom t [] new = HoldsEntries t × Ends new t
LeadsFrom t (step ∷ steps) new = HoldsEntries t × IsLawfulStep step × IsBefore step t × LeadsFrom (step_done step t) steps new

-- ---- files

abbrev pub number_of : Option Node → Option ℕ
number_of None = None
number_of (Some (Dir mode)) = None
number_of (Some (Link target)) = None
number_of (Some (File number bytes mode)) = Some number

-- the number of the file whose mode the step sets
abbrev pub file_of : FileTree → Step → Option ℕ
file_of t (MakeDir p) = None
file_of t (Rename from to) = None
file_of t (Mode p old new) = number_of (get t p)

-- not both set the mode of one file
abbrev pub SetOther : FileTree → Step → Step → Type 0
SetOther t s u = (n : ℕ) → file_of t s ≡ Some n → file_of t u ≡ Some n → ⊥

-- nor s and any of these
abbrev pub SetApart : FileTree → Step → List Step → Type 0
SetApart t s [] = Unit {0}
SetApart t s (u ∷ steps) = SetOther t s u × SetApart t s steps

-- no two of them do
abbrev pub SetOthers : FileTree → List Step → Type 0
SetOthers t [] = Unit {0}
SetOthers t (s ∷ steps) = SetApart t s steps × SetOthers t steps

-- nor do two of one group, each in the tree at its cut
abbrev pub GroupsSetOthers : FileTree → List (List Step) → Type 0
GroupsSetOthers t [] = Unit {0}
GroupsSetOthers t (g ∷ gs) = SetOthers t g × GroupsSetOthers (after g t) gs

-- ---- from the old tree to the edited one

-- The steps lead from the one to the other, and no two Mode steps of one group name one file number.
pub record Leads (steps : List Step) (old new : FileTree) (fresh : List Node) : Type 0 where
  pub from : LeadsFrom (start old fresh) steps new
  pub others : GroupsSetOthers (start old fresh) (groups steps)
