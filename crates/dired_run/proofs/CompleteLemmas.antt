-- What is well formed is done, unless a call of the outside fails or memory runs out.
use Rattle.std.proofs.Common.{◌≡◌, ◌⊎◌, inl, inr, ⊎_elim, ℕ, ◌≤◌, Bool, false, List, length, sym, ◌∙◌, ap, arith, Some, Ok, Err, nat_lt}
use Rattle.std.proofs.lemmas.Bool.{cond-false, le-ltb}
use Rattle.dired_text.specs.Counts.{raised, Stayed}
use Rattle.tree_core.specs.declared.changes.Changes.TheVariants.{Edits}
use Rattle.tree_core.specs.declared.changes.Confirmed.{Confirmed}
use Rattle.tree_core.specs.declared.faults.Faults.{Faults}
use Rattle.tree_core.specs.declared.node.CallName.{CallName}
use Rattle.tree_core.specs.FileTree.{FileTree, IsTree}
use Rattle.tree_core.specs.History.{History, IsDurable, current_tree}
use Rattle.tree_core.specs.Faults.{TreeHeld, with_fault}
use Rattle.commit_run.specs.declared.end.CommitEnd.{CommitEnd}
use Rattle.commit_run.specs.declared.end.CommitEnd.TheVariants as end
use Rattle.commit_run.specs.Faults.{NamesFaults}
use Rattle.commit_recover.specs.declared.end.RecoverEnd.{RecoverEnd}
use Rattle.commit_recover.specs.declared.end.RecoverEnd.TheVariants as recovered_as
use Rattle.commit_recover.specs.Faults as recovery_faults
use Rattle.commit_recover.specs.Recovers as recovery
use Rattle.commit_states.specs.Interrupted.{IsInterrupted}
use Rattle.tree_core.proofs.Moments.{started-durable}
use Rattle.wdired_buffer.specs.Edits.{Asks}
use Rattle.edit_words.specs.declared.row.Row.{Row}
use Rattle.edit_words.specs.Rows.{rows}
use Rattle.edit_words.specs.WellFormed.{max_changes}
use Rattle.edit_words.proofs.WellFormedLemmas.{taken_alone}
use Rattle.run_status.specs.declared.status.Counted.TheVariants.{Edits as ManyEdits}
use Rattle.run_status.specs.declared.status.Status.{Status}
use Rattle.run_status.specs.declared.status.Status.TheVariants.{Done, Memory, TooLarge}
use Rattle.dired_run.specs.Faults.{status_of_commit, status_of_recovery}
use Rattle.dired_run.specs.Inputs.{Files, input_of, bytes_or_refusal, max_buffer_bytes}
use Rattle.dired_run.specs.Requests.{of_inputs, of_buffer, of_edits, of_asks}
use Rattle.dired_run.specs.Reports.{Said}
use Rattle.dired_run.specs.Verdicts.{Verdict, Refuses, Makes, Lists, Recovers, Drills, unless, on_dirs}
use Rattle.dired_run.specs.Runs.{Outside, Decides, no_memory, read_failed, look_failed, refused, listed, committed, recovered, drilled, verdict, of_request, of_command}
use Rattle.dired_run.specs.WellFormed.{AreAllowed, CanCommit, CanDrill, CanList, CanRecover, IsWellFormed}

within : (n m : ℕ) → n ≤ m → nat_lt m n ≡ false
within n m le = le-ltb m n le

held : (files : Files) (name bytes : List ℕ) → files name ≡ Some bytes → length bytes ≤ max_buffer_bytes → input_of files name ≡ Ok bytes
held files name bytes is short = ap (bytes_or_refusal name) is ∙ cond-false _ _ _ (within (length bytes) max_buffer_bytes short)

-- edits that are allowed
makes_all : (asks : Asks) (confirmed : Confirmed) (t : FileTree) → IsTree t → AreAllowed asks.edits confirmed t → of_request (of_asks confirmed asks) t ≡ Makes asks.edits asks.emptied
makes_all asks confirmed t tree allowed =
    let rs : List Row = rows (Edits asks.edits) in
    ap (λ asked. of_request asked t) (cond-false (nat_lt max_changes (length asks.edits)) (Err (TooLarge ManyEdits (length asks.edits))) (Ok (record { edits = asks.edits; confirmed = confirmed; flagged = asks.emptied })) (within (length asks.edits) max_changes allowed.few))
    ∙ ap (λ fault. unless fault (Makes asks.edits asks.emptied)) ((taken_alone t confirmed rs tree).1 allowed.can_be_made)

commit_made : (words : List (List ℕ)) (files : Files) (t : FileTree) → IsTree t → (w : CanCommit words files t) → verdict words files t ≡ Makes w.asks.edits w.asks.emptied
commit_made words files t tree w =
    let confirmed : Confirmed = record { all = w.all; paths = w.confirmed } in
    ap (λ c. of_command c files t) w.words_are
    ∙ ap (λ r. of_request (of_inputs confirmed w.before_name r (input_of files w.after_name)) t) (held files w.before_name w.before w.before_held w.before_short)
    ∙ ap (λ r. of_request (of_inputs confirmed w.before_name (Ok w.before) r) t) (held files w.after_name w.after w.after_held w.after_short)
    ∙ ap (λ r. of_request (of_buffer confirmed w.before_name r w.after) t) w.form
    ∙ ap (λ r. of_request (of_edits confirmed r) t) w.edits
    ∙ makes_all w.asks confirmed t tree w.allowed

list_made : (words : List (List ℕ)) (files : Files) (t : FileTree) → (w : CanList words t) → verdict words files t ≡ Lists w.switches w.dirs
list_made words files t w =
    ap (λ c. of_command c files t) w.words_are
    ∙ ap (λ other. on_dirs w.switches w.dirs other) w.stand

recovery_made : (words : List (List ℕ)) (files : Files) (t : FileTree) → (w : CanRecover words t) → verdict words files t ≡ Recovers w.back
recovery_made words files t w = ap (λ c. of_command c files t) w.words_are

drill_made : (words : List (List ℕ)) (files : Files) (t : FileTree) → (w : CanDrill words) → verdict words files t ≡ Drills w.groups
drill_made words files t w = ap (λ c. of_command c files t) w.words_are

-- Nothing is refused, and what is recovered is an interrupted commit.
record IsTaken (words : List (List ℕ)) (t : FileTree) (v : Verdict) : Type 0 where
  not_refused : (status : Status) → v ≡ Refuses status → ⊥
  recovers : (back : Bool) → v ≡ Recovers back → CanRecover words t

well_formed_taken : (words : List (List ℕ)) (files : Files) (t : FileTree) → IsTree t → IsWellFormed words files t → IsTaken words t (verdict words files t)
well_formed_taken words files t tree (inl commit) =
    record {
      not_refused = λ status is. let wrong : Makes commit.asks.edits commit.asks.emptied ≡ Refuses status = sym (commit_made words files t tree commit) ∙ is in cc;
      recovers = λ back is. absurd (let wrong : Makes commit.asks.edits commit.asks.emptied ≡ Recovers back = sym (commit_made words files t tree commit) ∙ is in cc);
    }
well_formed_taken words files t tree (inr (inl list)) =
    record {
      not_refused = λ status is. let wrong : Lists list.switches list.dirs ≡ Refuses status = sym (list_made words files t list) ∙ is in cc;
      recovers = λ back is. absurd (let wrong : Lists list.switches list.dirs ≡ Recovers back = sym (list_made words files t list) ∙ is in cc);
    }
well_formed_taken words files t tree (inr (inr (inr drill))) =
    record {
      not_refused = λ status is. let wrong : Drills drill.groups ≡ Refuses status = sym (drill_made words files t drill) ∙ is in cc;
      recovers = λ back is. absurd (let wrong : Drills drill.groups ≡ Recovers back = sym (drill_made words files t drill) ∙ is in cc);
    }
well_formed_taken words files t tree (inr (inr (inl recover))) =
    record {
      not_refused = λ status is. let wrong : Recovers recover.back ≡ Refuses status = sym (recovery_made words files t recover) ∙ is in cc;
      recovers = λ back is. recover;
    }

-- a count that rose didn't stay
not_raised : (before now : ℕ) → Stayed before now → now ≡ raised before → ⊥
not_raised before now stayed is = let same : now ≡ raised before = is in omega arith

not_raised_twice : (before now : ℕ) → Stayed before now → now ≡ raised (raised before) → ⊥
not_raised_twice before now stayed is = let same : now ≡ raised (raised before) = is in omega arith

no_call_failed : (old now : Faults) (first : CallName) → TreeHeld old now → now ≡ with_fault first old → ⊥
no_call_failed old now first held is = not_raised old.count now.count held (ap (λ (f : Faults). f.count) is)

commit_done : (ended : CommitEnd) (old now : Faults) (decided : Status) → TreeHeld old now → NamesFaults old now ended → decided ≡ status_of_commit ended → (decided ≡ Done) ⊎ (decided ≡ Memory)
commit_done end.Done old now decided held names is = inl is
commit_done end.Memory old now decided held names is = inr is
commit_done (end.TreeFault first) old now decided held names is = absurd (no_call_failed old now first held names)
commit_done (end.RolledBack first) old now decided held names is = absurd (no_call_failed old now first held names)
commit_done (end.Unfinished first second) old now decided held names is = absurd (not_raised_twice old.count now.count held (ap (λ (f : Faults). f.count) names))
commit_done (end.Unclean first) old now decided held names is = absurd (no_call_failed old now first held names)

recovery_done : (words : List (List ℕ)) (way : Bool) (ended : RecoverEnd) (begun now : History) (old_faults now_faults : Faults) (decided : Status) → IsDurable begun → CanRecover words (current_tree begun)
    → recovery.Recovers way begun now ended → TreeHeld old_faults now_faults → recovery_faults.NamesFaults old_faults now_faults ended → decided ≡ status_of_recovery ended → (decided ≡ Done) ⊎ (decided ≡ Memory)
recovery_done words way ended begun now old_faults now_faults decided durable w recovers held names is = go ended ends names is
  where
    ends : recovery.EndsBy way w.interrupted begun now ended
    ends = (recovers w.steps w.old w.new w.fresh w.tree w.unstaged w.few (started-durable begun (IsInterrupted w.steps w.old w.new w.fresh) durable w.interrupted) w.interrupted).1

    go : (e : RecoverEnd) → recovery.EndsBy way w.interrupted begun now e → recovery_faults.NamesFaults old_faults now_faults e → decided ≡ status_of_recovery e → (decided ≡ Done) ⊎ (decided ≡ Memory)
    go recovered_as.Nothing ends names is = inl is
    go recovered_as.Edited ends names is = inl is
    go recovered_as.Old ends names is = inl is
    go recovered_as.Cleared ends names is = inl is
    go recovered_as.Memory ends names is = inr is
    go (recovered_as.TreeFault first) ends names is = absurd (no_call_failed old_faults now_faults first held names)
    go (recovered_as.BadJournal offset) ends names is = absurd ends
    go (recovered_as.Foreign name) ends names is = absurd ends
    go (recovered_as.Strange step) ends names is = absurd ends

decided_done : (words : List (List ℕ)) (v : Verdict) (before now : Outside) (decided : Status) (text : List ℕ) → IsDurable before.history → IsTaken words (current_tree before.history) v → TreeHeld before.tree_faults now.tree_faults → Stayed before.read_faults now.read_faults
    → Decides v before now decided text → (decided ≡ Done) ⊎ (decided ≡ Memory)
decided_done words v before now decided text durable taken trees reads (no_memory is said same) = inr is
decided_done words v before now decided text durable taken trees reads (read_failed name is said same count last) = absurd (not_raised before.read_faults now.read_faults reads count)
decided_done words v before now decided text durable taken trees reads (look_failed first look is said history found faults same) = absurd (no_call_failed before.tree_faults now.tree_faults first trees faults)
decided_done words v before now decided text durable taken trees reads (refused is said same count) = absurd (taken.not_refused decided is)
decided_done words v before now decided text durable taken trees reads (listed switches dirs is done listing same count) = inl done
decided_done words v before now decided text durable taken trees reads (committed edits flagged ended is commits names count decides said) = commit_done ended before.tree_faults now.tree_faults decided trees names decides
decided_done words v before now decided text durable taken trees reads (recovered back ended is recovers answers names count decides said) =
    recovery_done words back ended before.history now.history before.tree_faults now.tree_faults decided durable (taken.recovers back is) recovers trees names decides
decided_done words v before now decided text durable taken trees reads (drilled groups is done said same count) = inl done

said_done : (Told : Type 0) (decided : Status) (text tb t : List ℕ) (cb c : ℕ) (result : Status) → Stayed cb c → (decided ≡ Done) ⊎ (decided ≡ Memory) → Said Told decided text tb t cb c result → (result ≡ Done) ⊎ (result ≡ Memory)
said_done Told decided text tb t cb c result stayed is (inl said) = ⊎_elim (λ e. inl (said.0 ∙ e)) (λ e. inr (said.0 ∙ e)) is
said_done Told decided text tb t cb c result stayed is (inr failed) = absurd (not_raised cb c stayed failed.1)

pub completes : (words : List (List ℕ)) (files : Files) (before now : Outside) (Told : Type 0) (decided : Status) (text tb t : List ℕ) (cb c : ℕ) (result : Status)
    → IsTree (current_tree before.history) → IsDurable before.history → IsWellFormed words files (current_tree before.history)
    → TreeHeld before.tree_faults now.tree_faults → Stayed before.read_faults now.read_faults → Stayed cb c
    → Decides (verdict words files (current_tree before.history)) before now decided text → Said Told decided text tb t cb c result → (result ≡ Done) ⊎ (result ≡ Memory)
completes words files before now Told decided text tb t cb c result tree durable formed trees reads writes decides said =
    said_done Told decided text tb t cb c result writes
    (decided_done words (verdict words files (current_tree before.history)) before now decided text durable (well_formed_taken words files (current_tree before.history) tree formed) trees reads decides) said
