-- What calls that only look leave of a tree, and how they fail.
use Rattle.std.specs.Prelude.{◌≡◌, Option, Some, None, Result, Ok, Err}
use Rattle.dired_text.specs.Paths.{Names}
use Rattle.tree_core.specs.declared.node.CallName.{CallName}
use Rattle.tree_core.specs.declared.meta.Meta.{Meta}
use Rattle.tree_core.specs.declared.faults.Faults.{Faults}
use Rattle.tree_core.specs.FileTree.{FileTree}
use Rattle.tree_core.specs.Faults.{with_fault}
use Rattle.tree_core.specs.History.{History, current_tree}

-- the failed call of the tree that a result tells, by what its error tells
abbrev pub failed_in : {A E : Type 0} → (E → Option CallName) → Result A E → Option CallName
failed_in failed (Ok value) = None
failed_in failed (Err end) = failed end

-- the tree that read before the last failed call, where t is the one that reads
abbrev pub found_by : Option CallName → FileTree → FileTree → FileTree
found_by None t before = before
found_by (Some call) t before = t

-- the faults behind it
abbrev pub faults_with : Option CallName → Faults → Faults
faults_with None faults = faults
faults_with (Some call) faults = with_fault call faults

-- What only looks leave of a tree that tells: its history and its fields stay, and a failed call found the tree that reads.
pub record OnlyLooked (failed : Option CallName) (old new : History) (old_fields new_fields : Names → Meta) (old_before new_before : FileTree) : Type 0 where
  pub history : new ≡ old
  pub fields : new_fields ≡ old_fields
  pub before_failed : new_before ≡ found_by failed (current_tree old) old_before
