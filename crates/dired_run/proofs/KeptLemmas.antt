-- Behind a commit that was done each path stands at its new place, but for the confirmed victims.
use Rattle.std.proofs.Common.{◌≡◌, inl, inr, ℕ, ◌≤◌, Bool, true, false, not, ◌&&◌, ◌||◌, List, [], ◌∷◌, map, length, refl, sym, ◌∙◌, ap, subst, arith, Option, Some, None, is_some, Result, Ok, Err, nat_lt, if◌then◌else◌}
use Rattle.std.specs.FinMap.{get, find}
use Rattle.std.proofs.lemmas.Bool.{false_from_ne_true, ltb-false}
use Rattle.dired_text.specs.Paths.{Names, path_cmp}
use Rattle.tree_core.specs.declared.changes.Changes.TheVariants.{Edits}
use Rattle.tree_core.specs.declared.changes.Confirmed.{Confirmed}
use Rattle.tree_core.specs.declared.edit.Edit.{Edit}
use Rattle.tree_core.specs.declared.node.Node.{Node}
use Rattle.tree_core.specs.FileTree.{FileTree, IsFile, IsTree, Stands}
use Rattle.tree_core.specs.History.{IsSound, current_tree, next_number}
use Rattle.command_words.specs.declared.command.Command.{Command}
use Rattle.command_words.specs.declared.command.Command.TheVariants as command
use Rattle.command_words.specs.declared.command.WordsFault.{WordsFault}
use Rattle.command_words.specs.Commands.{command_of}
use Rattle.commit_run.specs.declared.end.CommitEnd.{CommitEnd}
use Rattle.commit_run.specs.declared.end.CommitEnd.TheVariants as end
use Rattle.commit_run.specs.Commits.{Commits}
use Rattle.edit_laws.specs.Laws.{is_retargeted}
use Rattle.edit_laws.proofs.AddedLemmas.{nothing_added}
use Rattle.edit_laws.proofs.AskedLemmas.{rows_are}
use Rattle.edit_laws.proofs.EditedLemmas.{edited-IsEdited}
use Rattle.edit_laws.proofs.ListLemmas.{any_from}
use Rattle.edit_laws.proofs.RowLemmas.{AreRows, is_at-same}
use Rattle.edit_laws.proofs.VictimLemmas.{victims_are}
use Rattle.edit_requests.proofs.RequestLemmas.{can_be_asked}
use Rattle.edit_words.specs.declared.fault.CheckFault.{CheckFault}
use Rattle.edit_words.specs.declared.row.Row.{Row}
use Rattle.edit_words.specs.Edited.{IsEdited, added_by, edited, with_new_mode}
use Rattle.edit_words.specs.Place.{place}
use Rattle.edit_words.specs.Refusals.{refusal}
use Rattle.edit_words.specs.Rows.{edit_row, is_at, is_kept, is_removed, is_victim, route_of, rows}
use Rattle.edit_words.specs.Sight.{sight_of}
use Rattle.edit_words.specs.WellFormed.{AreAsked, CanBeAsked, CanBeMade, max_changes}
use Rattle.edit_words.proofs.WellFormedLemmas.{taken_alone}
use Rattle.plan_fits.specs.Laws.{made_for}
use Rattle.wdired_buffer.specs.declared.faults.BufferFault.{BufferFault}
use Rattle.wdired_buffer.specs.declared.faults.EditsFault.{EditsFault}
use Rattle.wdired_buffer.specs.declared.line.BufferLine.{BufferLine}
use Rattle.wdired_buffer.specs.Buffer.{buffer_of}
use Rattle.wdired_buffer.specs.Edits.{Asks, edits_of}
use Rattle.dired_run.specs.declared.requests.Request.{Request}
use Rattle.run_status.specs.declared.status.Counted.TheVariants.{Edits as ManyEdits}
use Rattle.run_status.specs.declared.status.Status.{Status}
use Rattle.run_status.specs.declared.status.Status.TheVariants.{Done, Usage, Memory, ReadFault, TreeFault, WriteFault, Missing, BadBuffer, Faulty, Unconfirmed, Stale, Pending, RolledBack, Unfinished, Unclean, BadJournal, Foreign, BadScript, TooLarge, Strange}
use Rattle.dired_run.specs.Faults.{status_of_commit}
use Rattle.run_status.specs.Faults.{status_of_fault}
use Rattle.dired_run.specs.Inputs.{Files, input_of}
use Rattle.dired_run.specs.Kept.{IsConfirmedVictim, IsDoneOrHeld, KeepsUnconfirmed, requested_by, requested_in, rows_of, taken_of}
use Rattle.dired_run.specs.Reports.{Said}
use Rattle.dired_run.specs.Requests.{Asked, of_asks, of_buffer, of_edits, of_inputs, request_of}
use Rattle.dired_run.specs.Runs.{Outside, Decides, no_memory, read_failed, look_failed, refused, listed, committed, recovered, drilled, of_command, of_request, verdict}
use Rattle.run_status.specs.Statuses.{IsDecisionOf, IsTreeRefusal, number_of, sort_of}
use Rattle.dired_run.specs.Verdicts.{Refuses, Makes, on_tree, unless}
use Rattle.dired_run.proofs.CarryLemmas.{check_refuses}

-- ---- what is asked for is lawful

abbrev request_or : Request → Asked → Request
request_or other (Err status) = other
request_or other (Ok request) = request

module _ (confirmed : Confirmed) (request : Request) where
  module _ (before after : List ℕ) (lines : List BufferLine) (read : buffer_of before ≡ Ok lines) where
    asked_by_all : (asks : Asks) → edits_of lines after ≡ Ok asks → of_asks confirmed asks ≡ Ok request → AreAsked (Edits request.edits)
    asked_by_all asks edits asked = go (nat_lt max_changes (length asks.edits)) refl asked
      where
        whole : Request
        whole = record { edits = asks.edits; confirmed = confirmed; flagged = asks.emptied }

        go : (long : Bool) → nat_lt max_changes (length asks.edits) ≡ long → (if long then Err (TooLarge ManyEdits (length asks.edits)) else Ok whole) ≡ Ok request → AreAsked (Edits request.edits)
        go true is asked = cc
        go false is asked =
            let few : length asks.edits ≤ max_changes = ltb-false max_changes (length asks.edits) is in
            let same : whole ≡ request = ap (request_or whole) asked in
            subst (λ (r : Request). AreAsked (Edits r.edits)) same (can_be_asked before after lines asks read edits few)

    asked_by_edits : (r : Result Asks EditsFault) → edits_of lines after ≡ r → of_edits confirmed r ≡ Ok request → AreAsked (Edits request.edits)
    asked_by_edits (Err e) edits asked = cc
    asked_by_edits (Ok asks) edits asked = asked_by_all asks edits asked

  asked_by_lines : (name before after : List ℕ) (r : Result (List BufferLine) BufferFault) → buffer_of before ≡ r → of_buffer confirmed name r after ≡ Ok request → AreAsked (Edits request.edits)
  asked_by_lines name before after (Err e) read asked = cc
  asked_by_lines name before after (Ok lines) read asked = asked_by_edits before after lines read (edits_of lines after) refl asked

  asked_by_inputs : (name : List ℕ) (before after : Result (List ℕ) Status) → of_inputs confirmed name before after ≡ Ok request → AreAsked (Edits request.edits)
  asked_by_inputs name (Err status) after asked = cc
  asked_by_inputs name (Ok before) (Err status) asked = cc
  asked_by_inputs name (Ok before) (Ok after) asked = asked_by_lines name before after (buffer_of before) refl asked

-- ---- where each path stands

none_removed : (edits : List Edit) (p : Names) → is_removed (map edit_row edits) p ≡ false
none_removed [] p = refl
none_removed (e ∷ edits) p = none_removed edits p

module _ (request : Request) (t : FileTree) (tree : IsTree t) (asked : AreAsked (Edits request.edits)) (can : CanBeMade t request.confirmed (rows_of request)) (made : List Node) where
  lawful : CanBeAsked (IsFile t) (Edits request.edits)
  lawful = record { lines = asked.lines; sources = asked.sources; not_root = asked.not_root; lawful = asked.lawful; count = asked.count }

  are : AreRows t (rows_of request)
  are = rows_are t (Edits request.edits) lawful can.well_formed

  is_edited : IsEdited t (rows_of request) made (edited t (rows_of request) made)
  is_edited = edited-IsEdited t (rows_of request) made tree can.well_formed are

  no_victim : (p : Names) → Stands t p → (IsConfirmedVictim request t p → ⊥) → is_victim (rows_of request) p ≡ false
  no_victim p stands none = false_from_ne_true _ (λ victim.
      let by = (victims_are t (rows_of request) p).0 (victim, stands) in
      none (by.0, by.1, by.2, can.victims by.0 p by.1 by.2))

  kept : (p : Names) → Stands t p → (IsConfirmedVictim request t p → ⊥) → is_kept (rows_of request) p ≡ true
  kept p stands none =
      ap (λ (b : Bool). not (b || is_removed (rows_of request) p)) (no_victim p stands none) ∙ ap not (none_removed request.edits p)

  stands_there : (p : Names) (node : Node) → get t p ≡ Some node → is_kept (rows_of request) p ≡ true → Stands (edited t (rows_of request) made) (place (route_of (rows_of request)) p)
  stands_there p node at is = go (find path_cmp (place (route_of (rows_of request)) p) (added_by t (rows_of request) made)) refl
    where
      go : (o : Option Node) → find path_cmp (place (route_of (rows_of request)) p) (added_by t (rows_of request) made) ≡ o → Stands (edited t (rows_of request) made) (place (route_of (rows_of request)) p)
      go (Some other) found = ap is_some (is_edited.added_stand (place (route_of (rows_of request)) p) other found)
      go None none = ap is_some (is_edited.stay p node is at none)

  own_there : (p : Names) (node : Node) → get t p ≡ Some node → is_kept (rows_of request) p ≡ true → is_retargeted (rows_of request) p ≡ false
      → get (edited t (rows_of request) made) (place (route_of (rows_of request)) p) ≡ Some (with_new_mode t (rows_of request) p node)
  own_there p node at is other =
      is_edited.stay p node is at (nothing_added t (rows_of request) made tree can.well_formed are p (record { kept = is; stands = ap is_some at })
      (λ r listed retargets source.
      let both : (r.retargets && is_at p r.source) ≡ true = ap (λ (b : Bool). b && is_at p r.source) retargets ∙ is_at-same p r.source source in
      let wrong : false ≡ true = sym other ∙ any_from (λ (x : Row). x.retargets && is_at p x.source) (rows_of request) r listed both in cc))

  preserved : KeepsUnconfirmed request t (edited t (rows_of request) made)
  preserved p node at none =
      let is = kept p (ap is_some at) none in
      record { stands = stands_there p node at is; own = own_there p node at is }

-- ---- a commit that was done

not_done : (f : CheckFault) (decided : Status) → status_of_fault f ≡ decided → decided ≡ Done → ⊥
not_done f decided is done = subst IsTreeRefusal (is ∙ done) (check_refuses f)

module _ (before now : Outside) (decided : Status) (text : List ℕ) (done : decided ≡ Done) where
  refused_not_done : (f : CheckFault) → Decides (Refuses (status_of_fault f)) before now decided text → ⊥
  refused_not_done f (no_memory is said same) = let wrong : Memory ≡ Done = sym is ∙ done in cc
  refused_not_done f (read_failed name is said same count last) = let wrong : ReadFault name ≡ Done = sym is ∙ done in cc
  refused_not_done f (look_failed first look is said history found faults reads) = let wrong : TreeFault first ≡ Done = sym is ∙ done in cc
  refused_not_done f (refused is said same reads) = not_done f decided (let same_status : status_of_fault f ≡ decided = cc in same_status) done
  refused_not_done f (listed switches dirs is decides listing same reads) = cc
  refused_not_done f (committed edits flagged ended is commits names reads decides said) = cc
  refused_not_done f (recovered back ended is recovers answers names reads decides said) = cc
  refused_not_done f (drilled groups is decides said same reads) = cc

  edited_at : (edits : List Edit) (ended : CommitEnd) → Commits (Edits edits) before.history now.history now.found ended → decided ≡ status_of_commit ended
      → current_tree now.history ≡ edited (current_tree before.history) (rows (Edits edits)) (made_for (current_tree before.history) (Edits edits) (next_number before.history))
  edited_at edits end.Done c is = c.ends.stands.0
  edited_at edits end.Memory c is = absurd (let wrong : Memory ≡ Done = sym is ∙ done in cc)
  edited_at edits (end.TreeFault first) c is = absurd (let wrong : TreeFault first ≡ Done = sym is ∙ done in cc)
  edited_at edits (end.RolledBack first) c is = absurd (let wrong : RolledBack first ≡ Done = sym is ∙ done in cc)
  edited_at edits (end.Unfinished first second) c is = absurd (let wrong : Unfinished first second ≡ Done = sym is ∙ done in cc)
  edited_at edits (end.Unclean first) c is = absurd (let wrong : Unclean first ≡ Done = sym is ∙ done in cc)

  done_edited : (edits : List Edit) (flagged : List Names) → Decides (Makes edits flagged) before now decided text
      → current_tree now.history ≡ edited (current_tree before.history) (rows (Edits edits)) (made_for (current_tree before.history) (Edits edits) (next_number before.history))
  done_edited edits flagged (no_memory is said same) = absurd (let wrong : Memory ≡ Done = sym is ∙ done in cc)
  done_edited edits flagged (read_failed name is said same count last) = absurd (let wrong : ReadFault name ≡ Done = sym is ∙ done in cc)
  done_edited edits flagged (look_failed first look is said history found faults reads) = absurd (let wrong : TreeFault first ≡ Done = sym is ∙ done in cc)
  done_edited edits flagged (refused is said same reads) = cc
  done_edited edits flagged (listed switches dirs is decides listing same reads) = cc
  done_edited edits flagged (committed others flags ended is commits names reads decides said) =
      let same : others ≡ edits = (let both : Makes edits flagged ≡ Makes others flags = is in cc) in
      edited_at edits ended (subst (λ (es : List Edit). Commits (Edits es) before.history now.history now.found ended) same commits) decides
  done_edited edits flagged (recovered back ended is recovers answers names reads decides said) = cc
  done_edited edits flagged (drilled groups is decides said same reads) = cc

  module _ (sound : IsSound before.history) (request : Request) (asked : AreAsked (Edits request.edits)) where
    abbrev t : FileTree
    t = current_tree before.history

    keeps_on_tree : Decides (on_tree request t) before now decided text → KeepsUnconfirmed request t (current_tree now.history)
    keeps_on_tree decides = go (refusal (sight_of t) request.confirmed (rows_of request)) refl decides
      where
        go : (o : Option CheckFault) → refusal (sight_of t) request.confirmed (rows_of request) ≡ o → Decides (unless o (Makes request.edits request.flagged)) before now decided text → KeepsUnconfirmed request t (current_tree now.history)
        go (Some fault) some decides = absurd (refused_not_done fault decides)
        go None none decides =
            subst (KeepsUnconfirmed request t) (sym (done_edited request.edits request.flagged decides))
            (preserved request t sound.tree asked ((taken_alone t request.confirmed (rows_of request) sound.tree).0 none) (made_for t (Edits request.edits) (next_number before.history)))

  keeps_request : (sound : IsSound before.history) (asked : Asked) (request : Request) → asked ≡ Ok request → AreAsked (Edits request.edits)
      → Decides (of_request asked (current_tree before.history)) before now decided text → KeepsUnconfirmed request (current_tree before.history) (current_tree now.history)
  keeps_request sound asked request is lawful decides =
      keeps_on_tree sound request lawful (subst (λ (a : Asked). Decides (of_request a (current_tree before.history)) before now decided text) is decides)

  keeps_command : (sound : IsSound before.history) (c : Result Command WordsFault) (files : Files) (request : Request) → requested_in c files ≡ Some request
      → Decides (of_command c files (current_tree before.history)) before now decided text → KeepsUnconfirmed request (current_tree before.history) (current_tree now.history)
  keeps_command sound (Err fault) files request is decides = cc
  keeps_command sound (Ok (command.Commit all b a paths)) files request is decides = go (request_of files b a confirmed) refl is
    where
      confirmed : Confirmed
      confirmed = record { all = all; paths = paths }

      go : (asked : Asked) → request_of files b a confirmed ≡ asked → taken_of asked ≡ Some request → KeepsUnconfirmed request (current_tree before.history) (current_tree now.history)
      go (Err status) asks is = cc
      go (Ok taken) asks is =
          let same : taken ≡ request = (let somes : Some taken ≡ Some request = is in cc) in
          let whole : request_of files b a confirmed ≡ Ok request = asks ∙ ap (λ (r : Request). Ok r) same in
          keeps_request sound (request_of files b a confirmed) request whole (asked_by_inputs confirmed request b (input_of files b) (input_of files a) whole) decides
  keeps_command sound (Ok (command.List switches dirs)) files request is decides = cc
  keeps_command sound (Ok (command.Recover back)) files request is decides = cc
  keeps_command sound (Ok (command.Drill groups)) files request is decides = cc

-- ---- the answer

numbered_done : (decided : Status) → number_of decided ≡ 0 → decided ≡ Done
numbered_done Done is = refl
numbered_done Usage is = absurd (omega arith)
numbered_done Memory is = absurd (omega arith)
numbered_done (ReadFault name) is = absurd (omega arith)
numbered_done (TreeFault first) is = absurd (omega arith)
numbered_done (WriteFault held) is = absurd (omega arith)
numbered_done (Missing name) is = absurd (omega arith)
numbered_done (BadBuffer name line cause) is = absurd (omega arith)
numbered_done (Faulty line cause) is = absurd (omega arith)
numbered_done (Unconfirmed line path) is = absurd (omega arith)
numbered_done (Stale line) is = absurd (omega arith)
numbered_done Pending is = absurd (omega arith)
numbered_done (RolledBack first) is = absurd (omega arith)
numbered_done (Unfinished first second) is = absurd (omega arith)
numbered_done (Unclean first) is = absurd (omega arith)
numbered_done (BadJournal offset) is = absurd (omega arith)
numbered_done (Foreign name) is = absurd (omega arith)
numbered_done (BadScript line cause) is = absurd (omega arith)
numbered_done (TooLarge what number) is = absurd (omega arith)
numbered_done (Strange step) is = absurd (omega arith)

was_done : (Told : Type 0) (decided : Status) (text tb t : List ℕ) (cb c : ℕ) (result : Status) → IsDecisionOf (sort_of decided) → Said Told decided text tb t cb c result → IsDoneOrHeld result → decided ≡ Done
was_done Told decided text tb t cb c result is (inl said) (inl done) = sym said.0 ∙ done
was_done Told decided text tb t cb c result is (inl said) (inr held) = absurd (subst (λ s. IsDecisionOf (sort_of s)) (sym said.0 ∙ held) is)
was_done Told decided text tb t cb c result is (inr failed) (inl done) = absurd (let wrong : WriteFault (number_of decided) ≡ Done = sym failed.0 ∙ done in cc)
was_done Told decided text tb t cb c result is (inr failed) (inr held) =
    numbered_done decided (let same : WriteFault (number_of decided) ≡ WriteFault 0 = sym failed.0 ∙ held in cc)

pub keeps : (words : List (List ℕ)) (files : Files) (before now : Outside) (Told : Type 0) (decided : Status) (text tb t : List ℕ) (cb c : ℕ) (result : Status)
    → IsSound before.history → IsDecisionOf (sort_of decided) → Decides (verdict words files (current_tree before.history)) before now decided text
    → Said Told decided text tb t cb c result → IsDoneOrHeld result → (request : Request) → requested_by words files ≡ Some request
    → KeepsUnconfirmed request (current_tree before.history) (current_tree now.history)
keeps words files before now Told decided text tb t cb c result sound is decides said done request asked =
    keeps_command before now decided text (was_done Told decided text tb t cb c result is said done) sound (command_of words) files request asked decides
