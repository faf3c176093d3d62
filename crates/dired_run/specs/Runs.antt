-- What a run does, as a function of its words, its inputs and the tree that it finds.
use Rattle.std.specs.Prelude.{◌≡◌, ◌⊎◌, ◌≤◌, ◌^◌, ℕ, Bool, List, length, Option, Some, Result, Ok, Err}
use Rattle.dired_text.specs.Counts.{raised}
use Rattle.dired_text.specs.Paths.{Names}
use Rattle.tree_core.specs.declared.changes.Changes.TheVariants.{Edits}
use Rattle.tree_core.specs.declared.edit.Edit.{Edit}
use Rattle.tree_core.specs.declared.faults.Faults.{Faults}
use Rattle.tree_core.specs.declared.meta.Meta.{Meta}
use Rattle.tree_core.specs.declared.node.CallName.{CallName}
use Rattle.tree_core.specs.declared.node.Node.{Node}
use Rattle.tree_core.specs.FileTree.{FileTree, IsAbsent, IsTree}
use Rattle.tree_core.specs.History.{History, LeavesOnly, current_tree}
use Rattle.tree_core.specs.Faults.{with_fault}
use Rattle.commit_steps.specs.declared.step.Step.{Step}
use Rattle.commit_steps.specs.Staging.{staging}
use Rattle.commit_states.specs.Interrupted.{IsInterrupted}
use Rattle.commit_run.specs.declared.end.CommitEnd.{CommitEnd}
use Rattle.commit_run.specs.Commits.{Commits, run_of}
use Rattle.commit_run.specs.Ends.{MayStand}
use Rattle.commit_run.specs.Faults.{NamesFaults}
use Rattle.commit_recover.specs.declared.end.RecoverEnd.{RecoverEnd}
use Rattle.commit_recover.specs.Answers.{Answers}
use Rattle.commit_recover.specs.Faults as recovery_faults
use Rattle.commit_recover.specs.Recovers as recovery
use Rattle.listing_text.specs.declared.switches.Switches.{Switches}
use Rattle.command_words.specs.declared.command.Command.{Command}
use Rattle.command_words.specs.declared.command.Command.TheVariants as command
use Rattle.command_words.specs.declared.command.WordsFault.{WordsFault}
use Rattle.command_words.specs.declared.command.WordsFault.TheVariants as words_fault
use Rattle.command_words.specs.Commands.{command_of}
use Rattle.edit_words.specs.Found.{IsLook}
use Rattle.subdir_list.specs.Listings.{IsListing, first_other}
use Rattle.dired_run.specs.declared.requests.Request.{Request}
use Rattle.run_status.specs.declared.status.Status.{Status}
use Rattle.run_status.specs.declared.status.Status.TheVariants.{Done, Usage, Memory, ReadFault, TreeFault}
use Rattle.dired_run.specs.Drills.{IsDrillText}
use Rattle.dired_run.specs.Faults.{status_of_commit, status_of_recovery}
use Rattle.dired_run.specs.Inputs.{Files}
use Rattle.dired_run.specs.Requests.{request_of}
use Rattle.run_status.specs.Statuses.{IsDecisionOf, IsKeptBehind, LastReadBehind, ReadsBehind, calls_behind, sort_of, text_of}
use Rattle.dired_run.specs.Verdicts.{Verdict, Refuses, Makes, Lists, Recovers, Drills, on_tree, on_dirs, recovered_text, summary_of}

abbrev pub of_request : Result Request Status → FileTree → Verdict
of_request (Err status) t = Refuses status
of_request (Ok request) t = on_tree request t

abbrev pub of_command : Result Command WordsFault → Files → FileTree → Verdict
of_command (Err words_fault.Usage) files t = Refuses Usage
of_command (Err words_fault.Memory) files t = Refuses Memory
of_command (Ok (command.Commit all before after confirmed)) files t = of_request (request_of files before after (record { all = all; paths = confirmed })) t
of_command (Ok (command.List switches dirs)) files t = on_dirs switches dirs (first_other t dirs)
of_command (Ok (command.Recover back)) files t = Recovers back
of_command (Ok (command.Drill groups)) files t = Drills groups

-- The first refusal, in the order of words, inputs, lines and tree, or the edits that are made, or the listing, the recovery or the drill.
abbrev pub verdict : List (List ℕ) → Files → FileTree → Verdict
verdict words files t = of_command (command_of words) files t

-- What is known of the outside at the start and at the end of a run: the history of the tree, the fields that it shows, its
-- failed calls, the count of its changing calls and the tree that the last failed one found, how many reads failed and the name of
-- the last.
pub record Outside : Type 0 where
  pub history : History
  pub fields : Names → Meta
  pub tree_faults : Faults
  pub changes : ℕ
  pub found : FileTree
  pub read_faults : ℕ
  pub last_read : Option (List ℕ)

abbrev pub outside : History → (Names → Meta) → Faults → ℕ → FileTree → ℕ → Option (List ℕ) → Outside
outside history fields tree_faults changes found read_faults last_read =
    record {
      history = history;
      fields = fields;
      tree_faults = tree_faults;
      changes = changes;
      found = found;
      read_faults = read_faults;
      last_read = last_read;
    }

-- no call changed the tree, and none failed
pub record IsSameTree (before now : Outside) : Type 0 where
  pub history : now.history ≡ before.history
  pub faults : now.tree_faults ≡ before.tree_faults

-- what is written last where the command was done, and else
abbrev pub last_text : Status → List ℕ → List ℕ
last_text Done output = output
last_text status output = text_of status

-- What holds of a status that a run decided and of what it then writes last, whatever the tree and the inputs tell: it is none of a
-- failed write, its text is its own, it tells what failed, and no changing call was made behind a refusal. Where the tree tells, its
-- history shows that.
pub record IsDecided (TreeTells InputsTell : Type 0) (before now : Outside) (decided : Status) (text : List ℕ) : Type 0 where
  pub decision : IsDecisionOf (sort_of decided)
  pub said : (decided ≡ Done) ⊎ (text ≡ text_of decided)
  pub calls : now.tree_faults ≡ calls_behind (sort_of decided) before.tree_faults
  pub reads : ReadsBehind (sort_of decided) before.read_faults now.read_faults
  pub last_read : InputsTell → LastReadBehind (sort_of decided) now.last_read
  pub unchanged : IsKeptBehind (sort_of decided) before.changes now.changes
  pub kept : TreeTells → IsKeptBehind (sort_of decided) before.history now.history

-- the check of edits that can be made only looks at the tree
abbrev pub IsLookFor : Verdict → CallName → Type 0
IsLookFor (Refuses status) call = Unit {0}
IsLookFor (Makes edits flagged) call = IsLook call
IsLookFor (Lists switches dirs) call = Unit {0}
IsLookFor (Recovers back) call = Unit {0}
IsLookFor (Drills groups) call = ⊥

-- How a run comes to decide a status, and what it then writes last.
pub data Decides (v : Verdict) (before now : Outside) (decided : Status) (text : List ℕ) : Type 0 where
  -- Memory ran out before the tree was changed. This may stand for a failed read, whose text has to be made.
  no_memory : decided ≡ Memory → text ≡ text_of Memory → IsSameTree before now → Decides v before now decided text
  -- An input couldn't be read.
  read_failed : (name : List ℕ) → decided ≡ ReadFault name → text ≡ text_of (ReadFault name) → IsSameTree before now
      → now.read_faults ≡ raised before.read_faults → now.last_read ≡ Some name → Decides v before now decided text
  -- A look at the tree failed.
  look_failed : (first : CallName) → IsLookFor v first → decided ≡ TreeFault first → text ≡ text_of (TreeFault first) → now.history ≡ before.history
      → now.found ≡ current_tree before.history → now.tree_faults ≡ with_fault first before.tree_faults → now.read_faults ≡ before.read_faults
      → Decides v before now decided text
  refused : v ≡ Refuses decided → text ≡ text_of decided → IsSameTree before now → now.read_faults ≡ before.read_faults
      → Decides v before now decided text
  listed : (switches : Switches) (dirs : List Names) → v ≡ Lists switches dirs → decided ≡ Done
      → IsListing switches (current_tree before.history) before.fields dirs text → IsSameTree before now → now.read_faults ≡ before.read_faults
      → Decides v before now decided text
  -- All edits were committed, and the commit ended so.
  committed : (edits : List Edit) (flagged : List Names) (ended : CommitEnd) → v ≡ Makes edits flagged
      → Commits (Edits edits) before.history now.history now.found ended → NamesFaults before.tree_faults now.tree_faults ended
      → now.read_faults ≡ before.read_faults → decided ≡ status_of_commit ended
      → text ≡ last_text decided (summary_of (current_tree before.history) edits flagged) → Decides v before now decided text
  -- A recovery ended so.
  recovered : (back : Bool) (ended : RecoverEnd) → v ≡ Recovers back → recovery.Recovers back before.history now.history ended
      → Answers back before.history now.history now.found ended → recovery_faults.NamesFaults before.tree_faults now.tree_faults ended
      → now.read_faults ≡ before.read_faults → decided ≡ status_of_recovery ended → text ≡ last_text decided (recovered_text ended)
      → Decides v before now decided text
  -- A drill tells what its commit did in a tree in memory. It never looks at the tree of the run.
  drilled : (groups : ℕ) → v ≡ Drills groups → decided ≡ Done → IsDrillText groups text → IsSameTree before now → now.read_faults ≡ before.read_faults
      → Decides v before now decided text

-- What a crash at any moment of a run leaves: the tree from before; or where edits are made, for one list of steps, what may stand
-- where their commit was stopped. Where a commit was stopped and is recovered, it leaves what may stand there for the same trees.
abbrev pub MayLeave : Verdict → History → History → Type 0
MayLeave (Refuses status) begun now = LeavesOnly begun now (λ c. c ≡ current_tree begun)
MayLeave (Makes edits flagged) begun now = (steps : List Step) × LeavesOnly begun now (MayStand (run_of (Edits edits) begun steps))
MayLeave (Lists switches dirs) begun now = LeavesOnly begun now (λ c. c ≡ current_tree begun)
MayLeave (Drills groups) begun now = LeavesOnly begun now (λ c. c ≡ current_tree begun)
MayLeave (Recovers back) begun now =
    (steps : List Step) (old new : FileTree) (fresh : List Node) → IsTree old → IsAbsent old staging → length fresh ≤ 2 ^ 32
    → IsInterrupted steps old new fresh (current_tree begun) → LeavesOnly begun now (IsInterrupted steps old new fresh)
