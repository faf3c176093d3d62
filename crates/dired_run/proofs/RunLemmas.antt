-- From the end of a command to the answer of a run.
use Rattle.std.proofs.Common.{◌≡◌, inl, inr, ℕ, Bool, true, false, List, sym, ◌∙◌, ap, subst, refl, Result}
use Rattle.commit_run.specs.declared.end.CommitEnd.{CommitEnd}
use Rattle.commit_run.specs.declared.end.CommitEnd.TheVariants as end
use Rattle.commit_recover.specs.declared.end.RecoverEnd.{RecoverEnd}
use Rattle.commit_recover.specs.declared.end.RecoverEnd.TheVariants as recovery
use Rattle.commit_recover.specs.Answers.{Answers}
use Rattle.commit_recover.specs.Faults.{NamesFaults}
use Rattle.dired_run.specs.declared.output.Output.{Output}
use Rattle.run_status.specs.declared.status.Status.{Status}
use Rattle.run_status.specs.declared.status.Status.TheVariants.{Memory, TreeFault}
use Rattle.dired_run.specs.Faults.{status_of_commit, status_of_recovery}
use Rattle.dired_run.specs.Reports.{Said, Reported, decided_of, output_of}
use Rattle.dired_run.specs.Runs.{Outside, Decides, IsDecided, no_memory, read_failed, look_failed, refused, listed, committed, recovered, drilled}
use Rattle.run_status.specs.Statuses.{has_fixed_text, text_of}
use Rattle.dired_run.specs.Verdicts.{Verdict}
use Rattle.dired_run.proofs.DecidedLemmas.{short_decided}

-- ---- a text that could not be made gives way to that of `Memory`

not_made : (decided other : Status) → has_fixed_text decided ≡ false → decided ≡ other → has_fixed_text other ≡ true → ⊥
not_made decided other made is fixed = let wrong : true ≡ false = sym fixed ∙ sym (ap has_fixed_text is) ∙ made in cc

fixed_commit : (ended : CommitEnd) → has_fixed_text (status_of_commit ended) ≡ true
fixed_commit end.Done = refl
fixed_commit end.Memory = refl
fixed_commit (end.TreeFault first) = refl
fixed_commit (end.RolledBack first) = refl
fixed_commit (end.Unfinished first second) = refl
fixed_commit (end.Unclean first) = refl

-- of the ends of a recovery only a foreign name has a text that is made, and it leaves all as before
short_recovery : (v : Verdict) (before now : Outside) (way : Bool) (ended : RecoverEnd) → has_fixed_text (status_of_recovery ended) ≡ false
    → Answers way before.history now.history now.found ended → NamesFaults before.tree_faults now.tree_faults ended → Decides v before now Memory (text_of Memory)
short_recovery v before now way recovery.Nothing made answers names = cc
short_recovery v before now way recovery.Edited made answers names = cc
short_recovery v before now way recovery.Old made answers names = cc
short_recovery v before now way recovery.Cleared made answers names = cc
short_recovery v before now way recovery.Memory made answers names = cc
short_recovery v before now way (recovery.TreeFault first) made answers names = cc
short_recovery v before now way (recovery.BadJournal offset) made answers names = cc
short_recovery v before now way (recovery.Foreign name) made answers names = no_memory refl refl (record { history = answers.1; faults = names })
short_recovery v before now way (recovery.Strange step) made answers names = cc

short_decides : (v : Verdict) (before now : Outside) (decided : Status) (text : List ℕ) → has_fixed_text decided ≡ false → Decides v before now decided text → Decides v before now Memory (text_of Memory)
short_decides v before now decided text made (no_memory is said same) = no_memory refl refl same
short_decides v before now decided text made (read_failed name is said same count last) = no_memory refl refl same
short_decides v before now decided text made (look_failed first look is said history found faults reads) = absurd (not_made decided (TreeFault first) made is refl)
short_decides v before now decided text made (refused is said same reads) = no_memory refl refl same
short_decides v before now decided text made (listed switches dirs is done listing same reads) = absurd (not_made decided _ made done refl)
short_decides v before now decided text made (drilled groups is done said same reads) = absurd (not_made decided _ made done refl)
short_decides v before now decided text made (committed edits flagged ended is commits names reads decides said) = absurd (not_made decided (status_of_commit ended) made decides (fixed_commit ended))
short_decides v before now decided text made (recovered back ended is recovers answers names reads decides said) =
    short_recovery v before now back ended (subst (λ s. has_fixed_text s ≡ false) decides made) answers names

-- the end of a command, and what was said of it
pub outcome_of : (TreeTells InputsTell Told : Type 0) (v : Verdict) (before now : Outside) (ended : Result Output Status) (taken_before taken : List ℕ) (count_before count : ℕ) (result : Status)
    → IsDecided TreeTells InputsTell before now (decided_of ended) (output_of ended)
    → (TreeTells → InputsTell → Decides v before now (decided_of ended) (output_of ended))
    → Reported Told ended taken_before taken count_before count result
    → (decided : Status) × (text : List ℕ) × (IsDecided TreeTells InputsTell before now decided text
    × ((TreeTells → InputsTell → Decides v before now decided text) × Said Told decided text taken_before taken count_before count result))
outcome_of TreeTells InputsTell Told v before now ended tb t cb c result is decides (inl said) = (decided_of ended, output_of ended, (is, (decides, said)))
outcome_of TreeTells InputsTell Told v before now ended tb t cb c result is decides (inr short) = (
  Memory,
  text_of Memory,
  (
    short_decided TreeTells InputsTell before now (decided_of ended) (output_of ended) short.0 is,
    (λ tells also. short_decides v before now (decided_of ended) (output_of ended) short.0 (decides tells also), short.1),
  ),
)
