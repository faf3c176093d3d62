-- What a crash at any moment of a run leaves.
use Rattle.std.proofs.Common.{◌≡◌, inl, ℕ, List, [], sym, subst, refl, Option, Some, None, Result, Ok, Err}
use Rattle.dired_text.specs.Paths.{Names}
use Rattle.tree_core.specs.declared.changes.Changes.TheVariants.{Edits}
use Rattle.tree_core.specs.declared.edit.Edit.{Edit}
use Rattle.tree_core.specs.FileTree.{FileTree, IsAbsent, IsTree}
use Rattle.tree_core.specs.History.{History, IsDurable, current_tree}
use Rattle.tree_core.proofs.Moments.{started-durable, unmoved}
use Rattle.commit_run.specs.declared.end.CommitEnd.{CommitEnd}
use Rattle.commit_run.specs.declared.end.CommitEnd.TheVariants as end
use Rattle.commit_run.specs.Commits.{Commits, run_of}
use Rattle.commit_run.specs.Ends.{MayStand}
use Rattle.commit_states.specs.Interrupted.{IsInterrupted, nothing_staged}
use Rattle.commit_steps.specs.Staging.{staging, staging_name}
use Rattle.edit_words.specs.declared.fault.CheckFault.{CheckFault}
use Rattle.edit_words.specs.Refusals.{refusal, staging as reserved}
use Rattle.edit_words.specs.Rows.{rows}
use Rattle.edit_words.specs.Sight.{sight_of}
use Rattle.edit_words.proofs.WellFormedLemmas.{taken_alone}
use Rattle.command_words.specs.declared.command.Command.{Command}
use Rattle.command_words.specs.declared.command.Command.TheVariants as command
use Rattle.command_words.specs.declared.command.WordsFault.{WordsFault}
use Rattle.command_words.specs.declared.command.WordsFault.TheVariants as words_fault
use Rattle.command_words.specs.Commands.{command_of}
use Rattle.listing_text.specs.declared.switches.Switches.{Switches}
use Rattle.subdir_list.specs.Listings.{first_other}
use Rattle.dired_run.specs.declared.requests.Request.{Request}
use Rattle.run_status.specs.declared.status.Status.{Status}
use Rattle.dired_run.specs.Inputs.{Files}
use Rattle.dired_run.specs.Requests.{request_of}
use Rattle.dired_run.specs.Runs.{Outside, Decides, MayLeave, no_memory, read_failed, look_failed, refused, listed, committed, recovered, drilled, of_command, of_request, verdict}
use Rattle.dired_run.specs.Verdicts.{Verdict, Refuses, Makes, Lists, Recovers, Drills, on_dirs, on_tree, unless}

-- ---- Where edits are made nothing is staged.

one_staging : staging ≡ reserved
unfolding staging_name
one_staging = refl

abbrev Unstaged : Verdict → FileTree → Type 0
Unstaged v t = (edits : List Edit) (flagged : List Names) → v ≡ Makes edits flagged → IsAbsent t staging

on_tree_unstaged : (request : Request) (t : FileTree) → IsTree t → Unstaged (on_tree request t) t
on_tree_unstaged request t tree edits flagged is = go (refusal (sight_of t) request.confirmed (rows (Edits request.edits))) refl is
  where
    go : (o : Option CheckFault) → refusal (sight_of t) request.confirmed (rows (Edits request.edits)) ≡ o → unless o (Makes request.edits request.flagged) ≡ Makes edits flagged → IsAbsent t staging
    go None none is = subst (IsAbsent t) (sym one_staging) ((taken_alone t request.confirmed (rows (Edits request.edits)) tree).0 none).well_formed.unstaged
    go (Some fault) some is = cc

of_request_unstaged : (asked : Result Request Status) (t : FileTree) → IsTree t → Unstaged (of_request asked t) t
of_request_unstaged (Err status) t tree edits flagged is = cc
of_request_unstaged (Ok request) t tree edits flagged is = on_tree_unstaged request t tree edits flagged is

on_dirs_unstaged : (switches : Switches) (dirs : List Names) (other : Option Names) (t : FileTree) → Unstaged (on_dirs switches dirs other) t
on_dirs_unstaged switches dirs None t edits flagged is = cc
on_dirs_unstaged switches dirs (Some other) t edits flagged is = cc

of_command_unstaged : (asked : Result Command WordsFault) (files : Files) (t : FileTree) → IsTree t → Unstaged (of_command asked files t) t
of_command_unstaged (Err words_fault.Usage) files t tree edits flagged is = cc
of_command_unstaged (Err words_fault.Memory) files t tree edits flagged is = cc
of_command_unstaged (Ok (command.Commit all before after confirmed)) files t tree edits flagged is =
    of_request_unstaged (request_of files before after (record { all = all; paths = confirmed })) t tree edits flagged is
of_command_unstaged (Ok (command.List switches dirs)) files t tree edits flagged is = on_dirs_unstaged switches dirs (first_other t dirs) t edits flagged is
of_command_unstaged (Ok (command.Recover back)) files t tree edits flagged is = cc
of_command_unstaged (Ok (command.Drill groups)) files t tree edits flagged is = cc

-- ---- the moments

unchanged : (v : Verdict) (begun now : History) → now ≡ begun → IsDurable begun → Unstaged v (current_tree begun) → MayLeave v begun now
unchanged (Refuses status) begun now same durable unstaged = unmoved begun now (λ c. c ≡ current_tree begun) same durable refl
unchanged (Makes edits flagged) begun now same durable unstaged =
    ([], unmoved begun now (MayStand (run_of (Edits edits) begun [])) same durable (nothing_staged (unstaged edits flagged refl) (inl refl)))
unchanged (Lists switches dirs) begun now same durable unstaged = unmoved begun now (λ c. c ≡ current_tree begun) same durable refl
unchanged (Drills groups) begun now same durable unstaged = unmoved begun now (λ c. c ≡ current_tree begun) same durable refl
unchanged (Recovers back) begun now same durable unstaged =
    λ steps old new fresh tree absent few row. unmoved begun now (IsInterrupted steps old new fresh) same durable row

of_commit : (edits : List Edit) (flagged : List Names) (begun now : History) (before : FileTree) (ended : CommitEnd)
    → Commits (Edits edits) begun now before ended → IsDurable begun → IsAbsent (current_tree begun) staging → MayLeave (Makes edits flagged) begun now
of_commit edits flagged begun now before end.Done c durable unstaged = (c.steps, c.ends.moments)
of_commit edits flagged begun now before end.Memory same durable unstaged = unchanged (Makes edits flagged) begun now same durable (λ es fs is. unstaged)
of_commit edits flagged begun now before (end.TreeFault first) c durable unstaged = (c.steps, c.ends.moments)
of_commit edits flagged begun now before (end.RolledBack first) c durable unstaged = (c.steps, c.ends.moments)
of_commit edits flagged begun now before (end.Unfinished first second) c durable unstaged = (c.steps, c.ends.moments)
of_commit edits flagged begun now before (end.Unclean first) c durable unstaged = (c.steps, c.ends.moments)

moments_by : (v : Verdict) (before now : Outside) (decided : Status) (text : List ℕ) → IsDurable before.history → Unstaged v (current_tree before.history) → Decides v before now decided text → MayLeave v before.history now.history
moments_by v before now decided text durable unstaged (no_memory is said same) = unchanged v before.history now.history same.history durable unstaged
moments_by v before now decided text durable unstaged (read_failed name is said same count last) = unchanged v before.history now.history same.history durable unstaged
moments_by v before now decided text durable unstaged (look_failed first look is said history found faults reads) = unchanged v before.history now.history history durable unstaged
moments_by v before now decided text durable unstaged (refused is said same reads) = unchanged v before.history now.history same.history durable unstaged
moments_by v before now decided text durable unstaged (listed switches dirs is done listing same reads) = unchanged v before.history now.history same.history durable unstaged
moments_by v before now decided text durable unstaged (drilled groups is done said same reads) = unchanged v before.history now.history same.history durable unstaged
moments_by v before now decided text durable unstaged (committed edits flagged ended is commits names reads decides said) =
    subst (λ u. MayLeave u before.history now.history) (sym is) (of_commit edits flagged before.history now.history now.found ended commits durable (unstaged edits flagged is))
moments_by v before now decided text durable unstaged (recovered back ended is recovers answers names reads decides said) =
    subst (λ u. MayLeave u before.history now.history) (sym is)
    (λ steps old new fresh tree absent few row.
    (recovers steps old new fresh tree absent few (started-durable before.history (IsInterrupted steps old new fresh) durable row) row).0)

pub moments_of : (words : List (List ℕ)) (files : Files) (before now : Outside) (decided : Status) (text : List ℕ) → IsTree (current_tree before.history) → IsDurable before.history
    → Decides (verdict words files (current_tree before.history)) before now decided text → MayLeave (verdict words files (current_tree before.history)) before.history now.history
moments_of words files before now decided text tree durable decides =
    moments_by (verdict words files (current_tree before.history)) before now decided text durable (of_command_unstaged (command_of words) files (current_tree before.history) tree) decides
