-- From the end of a check, a commit or a listing to what a run decides.
use Rattle.std.proofs.Common.{◌≡◌, inl, inr, ℕ, List, sym, ◌∙◌, ap, subst, refl, Option, Some, None, is_some, IsTrue, Result, Err, IfErr}
use Rattle.dired_text.specs.Paths.{Names}
use Rattle.tree_core.specs.declared.changes.Changes.{Changes}
use Rattle.tree_core.specs.declared.changes.Changes.TheVariants.{Edits}
use Rattle.tree_core.specs.declared.edit.Edit.{Edit}
use Rattle.tree_core.specs.declared.faults.Faults.{Faults}
use Rattle.tree_core.specs.declared.node.CallName.{CallName}
use Rattle.tree_core.specs.FileTree.{FileTree, IsFile, IsTree}
use Rattle.tree_core.specs.History.{History, current_tree}
use Rattle.tree_core.specs.Looks.{OnlyLooked, faults_with}
use Rattle.edit_check.specs.declared.checked.Checked.{Checked}
use Rattle.edit_check.specs.StandFor.{StandsFor, changes_in}
use Rattle.commit_plan.specs.Promises.{IsOldTree}
use Rattle.commit_run.specs.declared.end.CommitEnd.{CommitEnd}
use Rattle.commit_run.specs.declared.end.CommitEnd.TheVariants as end
use Rattle.commit_run.specs.Commits.{Commits}
use Rattle.commit_run.specs.Faults.{IsKept, NamesFaults}
use Rattle.edit_words.specs.declared.counts.Counts.{Counts}
use Rattle.edit_words.specs.declared.fault.CheckFault.{CheckFault}
use Rattle.edit_words.specs.declared.fault.CheckFault.TheVariants as fault
use Rattle.edit_words.specs.Counting.{counts_of}
use Rattle.edit_words.specs.Found.{IsFreeOr, IsLook, IsLookAt, failed_call}
use Rattle.edit_words.specs.Refusals.{refusal}
use Rattle.edit_words.specs.Rows.{rows}
use Rattle.edit_words.specs.Sight.{sight_of}
use Rattle.edit_words.specs.WellFormed.{CanBeMade, LinksHaveFiles}
use Rattle.edit_words.proofs.WellFormedLemmas.{taken_alone}
use Rattle.dired_run.specs.declared.output.Output.{Output}
use Rattle.dired_run.specs.declared.requests.Request.{Request}
use Rattle.run_status.specs.declared.status.Status.{Status}
use Rattle.run_status.specs.declared.status.Status.TheVariants.{Memory, TreeFault}
use Rattle.dired_run.specs.Faults.{status_of_commit}
use Rattle.run_status.specs.Faults.{status_of_fault}
use Rattle.dired_run.specs.Reports.{decided_of, output_of}
use Rattle.dired_run.specs.Runs.{Outside, Decides, IsLookFor, no_memory, look_failed, refused, committed, last_text}
use Rattle.run_status.specs.Statuses.{IsKeptBehind, IsTreeRefusal, calls_behind, sort_of, text_of}
use Rattle.dired_run.specs.Verdicts.{Makes, on_tree, summary_text, unless}

-- ---- the check

-- a fault that names a call is its failure
told_fault : (f : CheckFault) (call : CallName) → failed_call f ≡ Some call → f ≡ fault.TreeFault call
told_fault fault.Pending call is = cc
told_fault (fault.Stale line) call is = cc
told_fault (fault.Reserved line) call is = cc
told_fault (fault.TwoToOne line other) call is = cc
told_fault (fault.ModeClash line other) call is = cc
told_fault (fault.ParentNotDirectory line path) call is = cc
told_fault (fault.MovedParent line other) call is = cc
told_fault (fault.ParentTaken line other) call is = cc
told_fault (fault.PathTooLong line) call is = cc
told_fault (fault.TargetIsDirectory line path) call is = cc
told_fault (fault.NotEmpty line path) call is = cc
told_fault (fault.Unconfirmed line path) call is = cc
told_fault (fault.PathBytes bytes) call is = cc
told_fault (fault.TreeFault other) call is = cc
told_fault fault.Memory call is = cc

-- what a fault of a check leaves
pub record IsLeftByCheck (f : CheckFault) (before now : Outside) : Type 0 where
  pub looked : OnlyLooked (failed_call f) before.history now.history before.fields now.fields before.found now.found
  pub faults : now.tree_faults ≡ faults_with (failed_call f) before.tree_faults
  pub looks : IsLookAt (failed_call f)
  pub reads : now.read_faults ≡ before.read_faults

-- edits that can be made are looked at alone
look_for : (o : Option CheckFault) (request : Request) (call : CallName) → IsLook call → IsLookFor (unless o (Makes request.edits request.flagged)) call
look_for None request call look = look
look_for (Some other) request call look = tt

pub check_decides : (request : Request) (f : CheckFault) (before now : Outside) → IsLeftByCheck f before now
    → IsFreeOr f (refusal (sight_of (current_tree before.history)) request.confirmed (rows (Edits request.edits)))
    → Decides (on_tree request (current_tree before.history)) before now (status_of_fault f) (text_of (status_of_fault f))
check_decides request f before now left free = go (failed_call f) refl
  where
    go : (o : Option CallName) → failed_call f ≡ o → Decides (on_tree request (current_tree before.history)) before now (status_of_fault f) (text_of (status_of_fault f))
    go (Some call) is =
        let status : status_of_fault f ≡ TreeFault call = ap status_of_fault (told_fault f call is) in
        look_failed call (look_for (refusal (sight_of (current_tree before.history)) request.confirmed (rows (Edits request.edits))) request call (subst IsLookAt is left.looks)) status (ap text_of status) left.looked.history
        (subst (λ o. OnlyLooked o before.history now.history before.fields now.fields before.found now.found) is left.looked).before_failed
        (subst (λ o. now.tree_faults ≡ faults_with o before.tree_faults) is left.faults) left.reads
    go None is = by_cause free
      where
        same : now.tree_faults ≡ before.tree_faults
        same = subst (λ o. now.tree_faults ≡ faults_with o before.tree_faults) is left.faults

        by_cause : IsFreeOr f (refusal (sight_of (current_tree before.history)) request.confirmed (rows (Edits request.edits)))
            → Decides (on_tree request (current_tree before.history)) before now (status_of_fault f) (text_of (status_of_fault f))
        by_cause (inl short) =
            let status : status_of_fault f ≡ Memory = ap status_of_fault short in
            no_memory status (ap text_of status) (record { history = left.looked.history; faults = same })
        by_cause (inr (inl told)) = absurd (let no : IsTrue (is_some {T = CallName} None) = subst (λ (o : Option CallName). IsTrue (is_some o)) is told in cc)
        by_cause (inr (inr wanted)) =
            refused (ap (λ o. unless o (Makes request.edits request.flagged)) wanted) refl (record { history = left.looked.history; faults = same }) left.reads

pub check_calls : (f : CheckFault) (old : Faults) → faults_with (failed_call f) old ≡ calls_behind (sort_of (status_of_fault f)) old
check_calls fault.Pending old = refl
check_calls (fault.Stale line) old = refl
check_calls (fault.Reserved line) old = refl
check_calls (fault.TwoToOne line other) old = refl
check_calls (fault.ModeClash line other) old = refl
check_calls (fault.ParentNotDirectory line path) old = refl
check_calls (fault.MovedParent line other) old = refl
check_calls (fault.ParentTaken line other) old = refl
check_calls (fault.PathTooLong line) old = refl
check_calls (fault.TargetIsDirectory line path) old = refl
check_calls (fault.NotEmpty line path) old = refl
check_calls (fault.Unconfirmed line path) old = refl
check_calls (fault.PathBytes bytes) old = refl
check_calls (fault.TreeFault call) old = refl
check_calls fault.Memory old = refl

-- what a check that fails answers
pub check_answers : (request : Request) (f : CheckFault) (before now : Outside) (r : Result Output Status) (status : Status) → r ≡ Err status → status ≡ status_of_fault f → IsLeftByCheck f before now
    → IsFreeOr f (refusal (sight_of (current_tree before.history)) request.confirmed (rows (Edits request.edits)))
    → Decides (on_tree request (current_tree before.history)) before now (decided_of r) (output_of r)
check_answers request f before now r status is status_is left free =
    subst (λ x. Decides (on_tree request (current_tree before.history)) before now (decided_of x) (output_of x)) (sym is)
    (subst (λ s. Decides (on_tree request (current_tree before.history)) before now s (text_of s)) (sym status_is) (check_decides request f before now left free))

pub check_answers_calls : (f : CheckFault) (old now : Faults) (r : Result Output Status) (status : Status) → r ≡ Err status → status ≡ status_of_fault f → now ≡ faults_with (failed_call f) old → now ≡ calls_behind (sort_of (decided_of r)) old
check_answers_calls f old now r status is status_is faults =
    subst (λ x. now ≡ calls_behind (sort_of (decided_of x)) old) (sym is) (subst (λ s. now ≡ calls_behind (sort_of s) old) (sym status_is) (faults ∙ check_calls f old))

pub check_refuses : (f : CheckFault) → IsTreeRefusal (status_of_fault f)
check_refuses fault.Pending = tt
check_refuses (fault.Stale line) = tt
check_refuses (fault.Reserved line) = tt
check_refuses (fault.TwoToOne line other) = tt
check_refuses (fault.ModeClash line other) = tt
check_refuses (fault.ParentNotDirectory line path) = tt
check_refuses (fault.MovedParent line other) = tt
check_refuses (fault.ParentTaken line other) = tt
check_refuses (fault.PathTooLong line) = tt
check_refuses (fault.TargetIsDirectory line path) = tt
check_refuses (fault.NotEmpty line path) = tt
check_refuses (fault.Unconfirmed line path) = tt
check_refuses (fault.PathBytes bytes) = tt
check_refuses (fault.TreeFault call) = tt
check_refuses fault.Memory = tt

pub check_ends : (f : CheckFault) (r : Result Output Status) (status : Status) → r ≡ Err status → status ≡ status_of_fault f → IfErr r IsTreeRefusal
check_ends f r status is status_is = subst (λ x. IfErr x IsTreeRefusal) (sym is) (subst IsTreeRefusal (sym status_is) (check_refuses f))

-- ---- the commit

-- the check stands for the tree, also behind its looks
pub stands_behind : (checked : Checked) (edits : List Edit) (old mid : History) → mid ≡ old → IsTree (current_tree old) → StandsFor checked (current_tree old) → changes_in checked ≡ Edits edits → IsOldTree checked (current_tree mid)
stands_behind checked edits old mid same tree stands keeps =
    subst (λ h. IsOldTree checked (current_tree h)) (sym same)
    (record { tree = tree; found = stands; files = subst (LinksHaveFiles (IsFile (current_tree old))) (sym keeps) tt })

commit_calls : (ended : CommitEnd) (old now : Faults) → NamesFaults old now ended → now ≡ calls_behind (sort_of (status_of_commit ended)) old
commit_calls end.Done old now names = names
commit_calls end.Memory old now names = names
commit_calls (end.TreeFault first) old now names = names
commit_calls (end.RolledBack first) old now names = names
commit_calls (end.Unfinished first second) old now names = names
commit_calls (end.Unclean first) old now names = names

pub commit_answers_calls : (ended : CommitEnd) (old mid now : Faults) (decided : Status) → mid ≡ old → NamesFaults mid now ended → decided ≡ status_of_commit ended → now ≡ calls_behind (sort_of decided) old
commit_answers_calls ended old mid now decided same names is =
    commit_calls ended old now (subst (λ f. NamesFaults f now ended) same names) ∙ ap (λ s. calls_behind (sort_of s) old) (sym is)

commit_kept : (ended : CommitEnd) (old now : ℕ) → IsKept old now ended → IsKeptBehind (sort_of (status_of_commit ended)) old now
commit_kept end.Done old now kept = tt
commit_kept end.Memory old now kept = kept
commit_kept (end.TreeFault first) old now kept = tt
commit_kept (end.RolledBack first) old now kept = tt
commit_kept (end.Unfinished first second) old now kept = tt
commit_kept (end.Unclean first) old now kept = tt

pub commit_answers_kept : (ended : CommitEnd) (old mid now : ℕ) (decided : Status) → mid ≡ old → IsKept mid now ended → decided ≡ status_of_commit ended → IsKeptBehind (sort_of decided) old now
commit_answers_kept ended old mid now decided same kept is =
    subst (λ s. IsKeptBehind (sort_of s) old now) (sym is) (commit_kept ended old now (subst (λ m. IsKept m now ended) same kept))

-- Checked edits were committed, and this was to be written.
pub commit_decides : (request : Request) (before now : Outside) (mid : History) (mid_faults : Faults) (changes : Changes) (counts : Counts) (flagged : List Names) (summary : List ℕ) (ended : CommitEnd) (decided : Status) (text : List ℕ)
    → IsTree (current_tree before.history) → CanBeMade (current_tree before.history) request.confirmed (rows (Edits request.edits))
    → mid ≡ before.history → changes ≡ Edits request.edits → Commits changes mid now.history now.found ended
    → mid_faults ≡ before.tree_faults → NamesFaults mid_faults now.tree_faults ended → now.read_faults ≡ before.read_faults
    → counts ≡ counts_of (sight_of (current_tree before.history)) (rows (Edits request.edits)) → flagged ≡ request.flagged → summary ≡ summary_text counts flagged
    → decided ≡ status_of_commit ended → text ≡ last_text (status_of_commit ended) summary
    → Decides (on_tree request (current_tree before.history)) before now decided text
commit_decides request before now mid mid_faults changes counts flagged summary ended decided text tree can same changes_are commits faults_same names reads counts_are flagged_are summary_is decided_is text_is =
    let t : FileTree = current_tree before.history in
    committed request.edits request.flagged ended
    (ap (λ o. unless o (Makes request.edits request.flagged)) ((taken_alone t request.confirmed (rows (Edits request.edits)) tree).1 can))
    (subst (λ h. Commits (Edits request.edits) h now.history now.found ended) same (subst (λ c. Commits c mid now.history now.found ended) changes_are commits))
    (subst (λ f. NamesFaults f now.tree_faults ended) faults_same names) reads decided_is
    (text_is ∙ ap (λ s. last_text s summary) (sym decided_is) ∙ ap (last_text decided) (summary_is ∙ ap (λ c. summary_text c flagged) counts_are ∙ ap (summary_text (counts_of (sight_of t) (rows (Edits request.edits)))) flagged_are))
