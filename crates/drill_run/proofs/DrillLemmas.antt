-- How a drill ends, by how its parts do.
use Rattle.std.proofs.Common.{◌≡◌, ℕ, refl, sym, ◌∙◌, ap, subst, Option, Some, None, Result, Err}
use Rattle.tree_core.specs.declared.changes.Changes.{Changes}
use Rattle.tree_core.specs.declared.faults.Faults.{Faults}
use Rattle.tree_core.specs.declared.node.CallName.{CallName}
use Rattle.tree_core.specs.FileTree.{FileTree}
use Rattle.tree_core.specs.History.{History, current_tree}
use Rattle.tree_core.specs.Looks.{faults_with}
use Rattle.commit_run.specs.declared.end.CommitEnd.{CommitEnd}
use Rattle.commit_run.specs.declared.end.CommitEnd.TheVariants as end
use Rattle.commit_run.specs.Commits.{Commits}
use Rattle.commit_run.specs.Faults as commit_faults
use Rattle.drill_tree.specs.Drill.{IsDrillTree, drill_edits}
use Rattle.drill_run.specs.declared.counts.DrillCounts.{DrillCounts}
use Rattle.drill_run.specs.declared.ends.DrillEnd.{DrillEnd}
use Rattle.drill_run.specs.declared.ends.DrillEnd.TheVariants.{Memory, Look, Commit}
use Rattle.drill_run.specs.Counts.{HasShortPaths, counts_of, counts_with, entry_count}
use Rattle.drill_run.specs.Drills.{AllOrNone, AreCommitted, IsDrilled, NamesFaults}
use Rattle.drill_run.specs.Ends.{IsOfLook, end_at, failed_look}
use Rattle.drill_run.proofs.LeftLemmas.{short_behind}

pub of_look : (o : Option CallName) → IsOfLook (end_at o)
of_look None = refl
of_look (Some call) = refl

pub look_of : (o : Option CallName) → failed_look (end_at o) ≡ o
look_of None = refl
look_of (Some call) = refl

by_look : (n : ℕ) (begun now : History) (before : FileTree) (e : DrillEnd) → IsOfLook e → AllOrNone n begun now → IsDrilled n begun now before (Err e)
by_look n begun now before Memory look all = all
by_look n begun now before (Look call) look all = all
by_look n begun now before (Commit ended) look all = cc

-- a drill that ends in a look, or for want of memory
pub looked : (n : ℕ) (begun now : History) (before : FileTree) (r : Result DrillCounts DrillEnd) (e f : DrillEnd) → r ≡ Err e → e ≡ f → IsOfLook f → AllOrNone n begun now
    → IsDrilled n begun now before r
looked n begun now before r e f is same look all = subst (IsDrilled n begun now before) (sym (is ∙ ap Err same)) (by_look n begun now before f look all)

by_look_faults : (old now : Faults) (e : DrillEnd) → IsOfLook e → now ≡ faults_with (failed_look e) old → NamesFaults old now (Err e)
by_look_faults old now Memory look faults = faults
by_look_faults old now (Look call) look faults = faults
by_look_faults old now (Commit ended) look faults = cc

pub looked_faults : (old now : Faults) (r : Result DrillCounts DrillEnd) (e f : DrillEnd) → r ≡ Err e → e ≡ f → IsOfLook f → now ≡ faults_with (failed_look f) old → NamesFaults old now r
looked_faults old now r e f is same look faults = subst (NamesFaults old now) (sym (is ∙ ap Err same)) (by_look_faults old now f look faults)

-- a commit that is done
pub committed : (n : ℕ) (changes : Changes) (mid begun now : History) (before : FileTree) (ended : CommitEnd) → ended ≡ end.Done → mid ≡ begun → changes ≡ drill_edits n
    → Commits changes mid now before ended → AreCommitted n begun now before
committed n changes mid begun now before ended done same are commits =
    subst (λ (e : CommitEnd). Commits (drill_edits n) begun now before e) done
    (subst (λ (h : History). Commits (drill_edits n) h now before ended) same (subst (λ (c : Changes). Commits c mid now before ended) are commits))

pub faults_kept : (old now : Faults) (ended : CommitEnd) → ended ≡ end.Done → commit_faults.NamesFaults old now ended → now ≡ old
faults_kept old now ended done names = subst (commit_faults.NamesFaults old now) done names

pub short_now : (n : ℕ) (begun now : History) (before : FileTree) → IsDrillTree n (current_tree begun) → AreCommitted n begun now before → HasShortPaths (current_tree now)
short_now n begun now before drill commit = subst HasShortPaths (sym commit.ends.stands.0) (short_behind n (current_tree begun) _ drill)

pub counted : (n : ℕ) (old : FileTree) (mid now : History) (counts : DrillCounts) (left : ℕ) → counts ≡ counts_with n old 0 → left ≡ entry_count (current_tree mid) → now ≡ mid
    → (record { entries = counts.entries; edits = counts.edits; cycles = counts.cycles; replaced = counts.replaced; temporaries = counts.temporaries; steps = counts.steps; left = left })
    ≡ counts_of n old (current_tree now)
counted n old mid now counts left is left_is same =
    ap (λ (c : DrillCounts). record { entries = c.entries; edits = c.edits; cycles = c.cycles; replaced = c.replaced; temporaries = c.temporaries; steps = c.steps; left = left }) is
    ∙ ap (counts_with n old) (left_is ∙ ap (λ (h : History). entry_count (current_tree h)) (sym same))
