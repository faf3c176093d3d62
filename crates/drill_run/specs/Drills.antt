-- What a drill does to its tree, by how it ends.
use Rattle.std.specs.Prelude.{◌≡◌, ◌⊎◌, ℕ, Result, Ok, Err}
use Rattle.tree_core.specs.declared.faults.Faults.{Faults}
use Rattle.tree_core.specs.FileTree.{FileTree}
use Rattle.tree_core.specs.Faults.{with_fault}
use Rattle.tree_core.specs.History.{History, current_tree}
use Rattle.commit_run.specs.declared.end.CommitEnd.{CommitEnd}
use Rattle.commit_run.specs.declared.end.CommitEnd.TheVariants as end
use Rattle.commit_run.specs.Commits.{Commits}
use Rattle.commit_run.specs.Faults as commit_faults
use Rattle.drill_tree.specs.Drill.{drill_edits}
use Rattle.drill_run.specs.declared.counts.DrillCounts.{DrillCounts}
use Rattle.drill_run.specs.declared.ends.DrillEnd.{DrillEnd}
use Rattle.drill_run.specs.declared.ends.DrillEnd.TheVariants.{Memory, Look, Commit}
use Rattle.drill_run.specs.Counts.{counts_of}

-- The edits of a drill were committed: the tree is the edited one, and nothing is pending.
abbrev pub AreCommitted : ℕ → History → History → FileTree → Type 0
AreCommitted n begun now before = Commits (drill_edits n) begun now before end.Done

-- All of them were committed, or none is done.
abbrev pub AllOrNone : ℕ → History → History → Type 0
AllOrNone n begun now = (now ≡ begun) ⊎ ((before : FileTree) × AreCommitted n begun now before)

-- an end of a commit that isn't done
abbrev pub IsFailure : CommitEnd → Type 0
IsFailure end.Done = ⊥
IsFailure end.Memory = ⊥
IsFailure (end.TreeFault first) = Unit {0}
IsFailure (end.RolledBack first) = Unit {0}
IsFailure (end.Unfinished first second) = Unit {0}
IsFailure (end.Unclean first) = Unit {0}

-- What stands then: at the counts the edited tree, of which they are; at want of memory or a failed look that or the old one; and else
-- the commit ended so.
abbrev pub IsDrilled : ℕ → History → History → FileTree → Result DrillCounts DrillEnd → Type 0
IsDrilled n begun now before (Ok counts) =
    ((found : FileTree) × AreCommitted n begun now found) × (counts ≡ counts_of n (current_tree begun) (current_tree now))
IsDrilled n begun now before (Err Memory) = AllOrNone n begun now
IsDrilled n begun now before (Err (Look call)) = AllOrNone n begun now
IsDrilled n begun now before (Err (Commit ended)) = IsFailure ended × Commits (drill_edits n) begun now before ended

-- which calls failed
abbrev pub NamesFaults : Faults → Faults → Result DrillCounts DrillEnd → Type 0
NamesFaults old now (Ok counts) = now ≡ old
NamesFaults old now (Err Memory) = now ≡ old
NamesFaults old now (Err (Look call)) = now ≡ with_fault call old
NamesFaults old now (Err (Commit ended)) = commit_faults.NamesFaults old now ended
