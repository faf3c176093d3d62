-- How a recovery ends that doesn't begin, or where nothing stands.
use Rattle.std.proofs.Common.{◌≡◌, inl, ℕ, Bool, true, false, subst}
use Rattle.commit_recover.specs.declared.end.RecoverEnd.{RecoverEnd}
use Rattle.commit_recover.specs.declared.end.RecoverEnd.TheVariants as end
use Rattle.commit_recover.specs.Answers.{Answers}
use Rattle.commit_recover.specs.Faults.{IsKept, NamesFaults}
use Rattle.commit_recover.specs.Starts.{end_of_start}
use Rattle.commit_recover.specs.Tasks.{is_worked}
use Rattle.dired_text.specs.Paths.{Names}
use Rattle.recovery_start.specs.declared.end.StartEnd.{StartEnd}
use Rattle.recovery_start.specs.declared.end.StartEnd.TheVariants as start
use Rattle.recovery_start.specs.Start.{IsEnd, failed_start}
use Rattle.tree_core.specs.declared.faults.Faults.{Faults}
use Rattle.tree_core.specs.declared.meta.Meta.{Meta}
use Rattle.tree_core.specs.FileTree.{FileTree}
use Rattle.tree_core.specs.History.{History, current_tree}
use Rattle.tree_core.specs.Looks.{OnlyLooked, faults_with}

-- it doesn't begin
pub not_begun : (way : Bool) (old new : History) (fields later : Names → Meta) (before behind : FileTree) (e : StartEnd) → OnlyLooked (failed_start e) old new fields later before behind → IsEnd (current_tree old) e
    → Answers way old new behind (end_of_start e)
not_begun way old new fields later before behind (start.Foreign name) looked is = (is, looked.history)
not_begun way old new fields later before behind (start.BadJournal offset) looked is = (is, looked.history)
not_begun way old new fields later before behind start.Memory looked is = looked.history
not_begun way old new fields later before behind (start.TreeFault call) looked is = inl (looked.history, looked.before_failed)

pub not_begun_faults : (old new : Faults) (e : StartEnd) → new ≡ faults_with (failed_start e) old → NamesFaults old new (end_of_start e)
not_begun_faults old new (start.Foreign name) is = is
not_begun_faults old new (start.BadJournal offset) is = is
not_begun_faults old new start.Memory is = is
not_begun_faults old new (start.TreeFault call) is = is

-- a start that only looked leaves the history
pub from_start : (way : Bool) (old mid now : History) (before : FileTree) (e : RecoverEnd) → mid ≡ old → Answers way mid now before e → Answers way old now before e
from_start way old mid now before e is answers = subst (λ (h : History). Answers way h now before e) is answers

-- ---- what was changed

pub not_begun_kept : (old new : ℕ) (e : StartEnd) → new ≡ old → IsKept old new (end_of_start e)
not_begun_kept old new (start.Foreign name) same = same
not_begun_kept old new (start.BadJournal offset) same = same
not_begun_kept old new start.Memory same = same
not_begun_kept old new (start.TreeFault call) same = tt

pub kept_from_start : (old mid now : ℕ) (e : RecoverEnd) → mid ≡ old → IsKept mid now e → IsKept old now e
kept_from_start old mid now e is kept = subst (λ n. IsKept n now e) is kept

-- one that worked says nothing of it
pub worked_kept : (old now : ℕ) (e : RecoverEnd) → is_worked e ≡ true → IsKept old now e
worked_kept old now end.Nothing worked = tt
worked_kept old now end.Edited worked = tt
worked_kept old now end.Old worked = tt
worked_kept old now end.Cleared worked = tt
worked_kept old now end.Memory worked = absurd (let wrong : false ≡ true = worked in cc)
worked_kept old now (end.TreeFault first) worked = tt
worked_kept old now (end.BadJournal offset) worked = absurd (let wrong : false ≡ true = worked in cc)
worked_kept old now (end.Foreign name) worked = absurd (let wrong : false ≡ true = worked in cc)
worked_kept old now (end.Strange step) worked = tt
