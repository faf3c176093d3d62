-- What holds of a decided status, whatever the tree and the inputs tell.
use Rattle.std.proofs.Common.{◌≡◌, ◌⊎◌, inl, inr, ℕ, Bool, true, false, List, refl, sym, ◌∙◌, subst, Option, Some, Result, Ok, Err, IfErr}
use Rattle.dired_text.specs.Counts.{raised}
use Rattle.tree_core.specs.declared.changes.Changes.{Changes}
use Rattle.tree_core.specs.declared.changes.Changes.TheVariants.{Edits}
use Rattle.tree_core.specs.declared.faults.Faults.{Faults}
use Rattle.tree_core.specs.FileTree.{FileTree}
use Rattle.tree_core.specs.History.{History}
use Rattle.commit_run.specs.declared.end.CommitEnd.{CommitEnd}
use Rattle.commit_run.specs.declared.end.CommitEnd.TheVariants as end
use Rattle.commit_run.specs.Commits.{Commits}
use Rattle.commit_recover.specs.declared.end.RecoverEnd.{RecoverEnd}
use Rattle.commit_recover.specs.declared.end.RecoverEnd.TheVariants as recovery
use Rattle.commit_recover.specs.Answers.{Answers}
use Rattle.dired_run.specs.declared.output.Output.{Output}
use Rattle.dired_run.specs.declared.requests.Request.{Request}
use Rattle.run_status.specs.declared.status.Status.{Status}
use Rattle.run_status.specs.declared.status.Status.TheVariants.{Done, Usage, Memory}
use Rattle.dired_run.specs.Faults.{status_of_commit, status_of_recovery}
use Rattle.dired_run.specs.Reports.{decided_of, output_of}
use Rattle.dired_run.specs.Runs.{Outside, Decides, IsDecided, IsSameTree, no_memory, read_failed, look_failed, refused, listed, committed, recovered, drilled}
use Rattle.run_status.specs.Statuses.{Sort, Success, Refusal, Encounter, Shortage, Reading, Calls, Writing, BySort, ByCause, IsDecisionOf, IsKeptBehind, IsRefusal, IsRefusalOf, IsTreeRefusal, IsTreeRefusalOf, LastReadBehind, ReadsBehind, calls_behind, has_fixed_text, has_fixed_text_of, sort_of, text_of}
use Rattle.dired_run.specs.Verdicts.{Verdict}

-- ---- what was changed

pub kept_same : {A : Type 0} (s : Sort) (old new : A) → new ≡ old → IsKeptBehind s old new
kept_same Success old new same = tt
kept_same (Refusal fixed) old new same = same
kept_same Encounter old new same = tt
kept_same Shortage old new same = same
kept_same (Reading name) old new same = same
kept_same (Calls calls) old new same = tt
kept_same (Writing held) old new same = tt

kept_by_commit : (changes : Changes) (begun now : History) (found : FileTree) (ended : CommitEnd) → Commits changes begun now found ended → IsKeptBehind (sort_of (status_of_commit ended)) begun now
kept_by_commit changes begun now found end.Done commits = tt
kept_by_commit changes begun now found end.Memory same = same
kept_by_commit changes begun now found (end.TreeFault first) commits = tt
kept_by_commit changes begun now found (end.RolledBack first) commits = tt
kept_by_commit changes begun now found (end.Unfinished first second) commits = tt
kept_by_commit changes begun now found (end.Unclean first) commits = tt

kept_by_recovery : (way : Bool) (begun now : History) (found : FileTree) (ended : RecoverEnd) → Answers way begun now found ended → IsKeptBehind (sort_of (status_of_recovery ended)) begun now
kept_by_recovery way begun now found recovery.Nothing answers = tt
kept_by_recovery way begun now found recovery.Edited answers = tt
kept_by_recovery way begun now found recovery.Old answers = tt
kept_by_recovery way begun now found recovery.Cleared answers = tt
kept_by_recovery way begun now found recovery.Memory same = same
kept_by_recovery way begun now found (recovery.TreeFault first) answers = tt
kept_by_recovery way begun now found (recovery.BadJournal offset) answers = answers.1
kept_by_recovery way begun now found (recovery.Foreign name) answers = answers.1
kept_by_recovery way begun now found (recovery.Strange step) answers = tt

-- by how it was decided
kept_by : (v : Verdict) (before now : Outside) (decided : Status) (text : List ℕ) → Decides v before now decided text → IsKeptBehind (sort_of decided) before.history now.history
kept_by v before now decided text (no_memory is said same) = kept_same (sort_of decided) before.history now.history same.history
kept_by v before now decided text (read_failed name is said same count last) = kept_same (sort_of decided) before.history now.history same.history
kept_by v before now decided text (look_failed first look is said history found faults reads) = kept_same (sort_of decided) before.history now.history history
kept_by v before now decided text (refused is said same reads) = kept_same (sort_of decided) before.history now.history same.history
kept_by v before now decided text (listed switches dirs is done listing same reads) = kept_same (sort_of decided) before.history now.history same.history
kept_by v before now decided text (drilled groups is done said same reads) = kept_same (sort_of decided) before.history now.history same.history
kept_by v before now decided text (committed edits flagged ended is commits names reads decides said) =
    subst (λ s. IsKeptBehind (sort_of s) before.history now.history) (sym decides) (kept_by_commit (Edits edits) before.history now.history now.found ended commits)
kept_by v before now decided text (recovered back ended is recovers answers names reads decides said) =
    subst (λ s. IsKeptBehind (sort_of s) before.history now.history) (sym decides) (kept_by_recovery back before.history now.history now.found ended answers)

-- ---- a command that ended with its output, or was refused where all was read

said_of : (ended : Result Output Status) → (decided_of ended ≡ Done) ⊎ (output_of ended ≡ text_of (decided_of ended))
said_of (Ok output) = inl refl
said_of (Err status) = inr refl

tree_decision : (ended : Result Output Status) → IfErr ended IsTreeRefusal → IsDecisionOf (sort_of (decided_of ended))
tree_decision (Ok output) is = tt
tree_decision (Err status) is = go (sort_of status) is
  where
    go : (s : Sort) → IsTreeRefusalOf s → IsDecisionOf s
    go Success no_way = absurd no_way
    go (Refusal fixed) is = tt
    go Encounter is = tt
    go Shortage is = tt
    go (Reading name) no_way = absurd no_way
    go (Calls calls) is = tt
    go (Writing held) no_way = absurd no_way

tree_reads : (ended : Result Output Status) (old new : ℕ) → IfErr ended IsTreeRefusal → new ≡ old → ReadsBehind (sort_of (decided_of ended)) old new
tree_reads (Ok output) old new is same = same
tree_reads (Err status) old new is same = go (sort_of status) is
  where
    go : (s : Sort) → IsTreeRefusalOf s → ReadsBehind s old new
    go Success no_way = absurd no_way
    go (Refusal fixed) is = same
    go Encounter is = same
    go Shortage is = inl same
    go (Reading name) no_way = absurd no_way
    go (Calls calls) is = same
    go (Writing held) no_way = absurd no_way

tree_last : (ended : Result Output Status) (last : Option (List ℕ)) → IfErr ended IsTreeRefusal → LastReadBehind (sort_of (decided_of ended)) last
tree_last (Ok output) last is = tt
tree_last (Err status) last is = go (sort_of status) is
  where
    go : (s : Sort) → IsTreeRefusalOf s → LastReadBehind s last
    go Success no_way = absurd no_way
    go (Refusal fixed) is = tt
    go Encounter is = tt
    go Shortage is = tt
    go (Reading name) no_way = absurd no_way
    go (Calls calls) is = tt
    go (Writing held) no_way = absurd no_way

pub tree_decided : (TreeTells InputsTell : Type 0) (v : Verdict) (before now : Outside) (ended : Result Output Status) → IfErr ended IsTreeRefusal
    → now.tree_faults ≡ calls_behind (sort_of (decided_of ended)) before.tree_faults → IsKeptBehind (sort_of (decided_of ended)) before.changes now.changes → now.read_faults ≡ before.read_faults
    → (TreeTells → Decides v before now (decided_of ended) (output_of ended)) → IsDecided TreeTells InputsTell before now (decided_of ended) (output_of ended)
tree_decided TreeTells InputsTell v before now ended is calls unchanged reads decides = record {
  decision = tree_decision ended is;
  said = said_of ended;
  calls = calls;
  reads = tree_reads ended before.read_faults now.read_faults is reads;
  last_read = λ tells. tree_last ended now.last_read is;
  unchanged = unchanged;
  kept = λ tells. kept_by v before now (decided_of ended) (output_of ended) (decides tells);
}

-- ---- the words and the inputs are refused

pub usage_decided : (TreeTells InputsTell : Type 0) (before : Outside) → IsDecided TreeTells InputsTell before before Usage (text_of Usage)
usage_decided TreeTells InputsTell before = record { decision = tt; said = inr refl; calls = refl; reads = refl; last_read = λ tells. tt; unchanged = refl; kept = λ tells. refl }

pub memory_decided : (TreeTells InputsTell : Type 0) (before : Outside) → IsDecided TreeTells InputsTell before before Memory (text_of Memory)
memory_decided TreeTells InputsTell before = record { decision = tt; said = inr refl; calls = refl; reads = inl refl; last_read = λ tells. tt; unchanged = refl; kept = λ tells. refl }

module _ (status : Status) (old new : ℕ) (count : ByCause status (new ≡ old) (λ _. ⊥) (λ failed. new ≡ raised old) (new ≡ old)) where
  inputs_calls : (f : Faults) → f ≡ calls_behind (sort_of status) f
  inputs_calls f = go (sort_of status) count
    where
      go : (s : Sort) → BySort s (new ≡ old) (λ _. ⊥) (λ failed. new ≡ raised old) (new ≡ old) → f ≡ calls_behind s f
      go Success count = refl
      go (Refusal fixed) count = refl
      go Encounter count = refl
      go Shortage count = refl
      go (Reading name) count = refl
      go (Calls calls) no_way = absurd no_way
      go (Writing held) count = refl

  inputs_reads : ReadsBehind (sort_of status) old new
  inputs_reads = go (sort_of status) count
    where
      go : (s : Sort) → BySort s (new ≡ old) (λ _. ⊥) (λ failed. new ≡ raised old) (new ≡ old) → ReadsBehind s old new
      go Success count = count
      go (Refusal fixed) count = count
      go Encounter count = count
      go Shortage count = inl count
      go (Reading name) count = count
      go (Calls calls) no_way = absurd no_way
      go (Writing held) count = count

inputs_last : (asked : Result Request Status) (status : Status) (last : Option (List ℕ)) → ByCause status (Unit {0}) (λ _. ⊥) (λ name. last ≡ Some name) (asked ≡ Err status) → LastReadBehind (sort_of status) last
inputs_last asked status last cause = go (sort_of status) cause
  where
    go : (s : Sort) → BySort s (Unit {0}) (λ _. ⊥) (λ name. last ≡ Some name) (asked ≡ Err status) → LastReadBehind s last
    go Success cause = tt
    go (Refusal fixed) cause = tt
    go Encounter cause = tt
    go Shortage cause = tt
    go (Reading name) cause = cause
    go (Calls calls) no_way = absurd no_way
    go (Writing held) cause = tt

refusal_decision : (s : Sort) → IsRefusalOf s → IsDecisionOf s
refusal_decision Success no_way = absurd no_way
refusal_decision (Refusal fixed) is = tt
refusal_decision Encounter is = tt
refusal_decision Shortage is = tt
refusal_decision (Reading name) is = tt
refusal_decision (Calls calls) is = tt
refusal_decision (Writing held) no_way = absurd no_way

pub inputs_decided : (TreeTells InputsTell : Type 0) (asked : Result Request Status) (before now : Outside) (status : Status) → IsRefusal status → IsSameTree before now → now.changes ≡ before.changes
    → (InputsTell → ByCause status (Unit {0}) (λ _. ⊥) (λ failed. now.last_read ≡ Some failed) (asked ≡ Err status))
    → ByCause status (now.read_faults ≡ before.read_faults) (λ _. ⊥) (λ failed. now.read_faults ≡ raised before.read_faults) (now.read_faults ≡ before.read_faults)
    → IsDecided TreeTells InputsTell before now status (text_of status)
inputs_decided TreeTells InputsTell asked before now status is same unchanged cause count = record {
  decision = refusal_decision (sort_of status) is;
  said = inr refl;
  calls = same.faults ∙ inputs_calls status before.read_faults now.read_faults count before.tree_faults;
  reads = inputs_reads status before.read_faults now.read_faults count;
  last_read = λ tells. inputs_last asked status now.last_read (cause tells);
  unchanged = kept_same (sort_of status) before.changes now.changes unchanged;
  kept = λ tells. kept_same (sort_of status) before.history now.history same.history;
}

-- ---- a text that could not be made gives way to that of `Memory`

pub short_decided : (TreeTells InputsTell : Type 0) (before now : Outside) (decided : Status) (text : List ℕ) → has_fixed_text decided ≡ false
    → IsDecided TreeTells InputsTell before now decided text → IsDecided TreeTells InputsTell before now Memory (text_of Memory)
short_decided TreeTells InputsTell before now decided text made is = go (sort_of decided) made is.calls is.reads is.unchanged is.kept
  where
    go : (s : Sort) → has_fixed_text_of s ≡ false → now.tree_faults ≡ calls_behind s before.tree_faults → ReadsBehind s before.read_faults now.read_faults
        → IsKeptBehind s before.changes now.changes → (TreeTells → IsKeptBehind s before.history now.history) → IsDecided TreeTells InputsTell before now Memory (text_of Memory)
    go Success made calls reads unchanged kept = absurd (let wrong : true ≡ false = made in cc)
    go (Refusal fixed) made calls reads unchanged kept = record { decision = tt; said = inr refl; calls = calls; reads = inl reads; last_read = λ tells. tt; unchanged = unchanged; kept = kept }
    go Encounter made calls reads unchanged kept = absurd (let wrong : true ≡ false = made in cc)
    go Shortage made calls reads unchanged kept = absurd (let wrong : true ≡ false = made in cc)
    go (Reading name) made calls reads unchanged kept = record { decision = tt; said = inr refl; calls = calls; reads = inr reads; last_read = λ tells. tt; unchanged = unchanged; kept = kept }
    go (Calls calls) made faults reads unchanged kept = absurd (let wrong : true ≡ false = made in cc)
    go (Writing held) made calls reads unchanged kept = absurd (let wrong : true ≡ false = made in cc)
