-- What a recovery promises where a commit was stopped follows from its answers.
use Rattle.std.proofs.Common.{◌≡◌, ◌⊎◌, inl, inr, ⊎_elim, ℕ, ◌≤◌, ◌^◌, Bool, true, false, List, [], ◌∷◌, ◌++◌, length, Option, Some, None, is_some, refl, sym, ◌∙◌, ap, subst}
use Rattle.commit_recover.specs.declared.end.RecoverEnd.{RecoverEnd}
use Rattle.commit_recover.specs.declared.end.RecoverEnd.TheVariants as end
use Rattle.commit_recover.specs.Answers.{Answers, Faulted, HasFound, IsCarriedOut, IsStopped, course_behind}
use Rattle.commit_recover.specs.Courses.{course_of, end_of, unless_strange}
use Rattle.commit_recover.specs.Items.{other_items}
use Rattle.commit_recover.specs.Recovers.{EndsBy, IsAtItsEnd, Recovers, told}
use Rattle.commit_states.proofs.LawLemmas.{unplanned_back}
use Rattle.commit_states.specs.Calls.{unstage_calls}
use Rattle.commit_states.specs.Interrupted.{IsInterrupted, IsJournalText, JournalAt, Read, ending, nothing_staged, no_journal, forward, back, behind_seal, all_undone}
use Rattle.commit_states.specs.Laws.{LeadsSafely}
use Rattle.commit_states.specs.Stops.{Halted, IsStaging, Unplanned}
use Rattle.commit_steps.specs.declared.step.Step.{Step}
use Rattle.commit_steps.specs.Staging.{staging, plan, sealed, undone}
use Rattle.recovery_courses.proofs.CloseLemmas.{seals_lead_forward, undone_lead_back}
use Rattle.recovery_courses.proofs.FollowLemmas.{on_the_way}
use Rattle.recovery_courses.proofs.HomeLemmas.{halts_lead_back, halts_lead_forward, turned_lead_back}
use Rattle.recovery_courses.specs.Course.{Course}
use Rattle.recovery_courses.specs.Ends.{back_from, clearing, closing, forward_from, turned_back_from}
use Rattle.recovery_courses.specs.Laws.{AreEntries, LeadsHome}
use Rattle.recovery_start.specs.declared.leftovers.Leftovers.{Leftovers}
use Rattle.recovery_start.specs.Start.{HasSteps, IsForeign, by_count, by_name, found_in, no_directory}
use Rattle.recovery_start.proofs.RowLaws.{early_shows}
use Rattle.recovery_start.specs.Rows.{Shows}
use Rattle.staging_names.specs.declared.staged_name.Journal as journal
use Rattle.staging_names.specs.declared.staged_name.Journal.TheVariants.{Plan, Done, Undone}
use Rattle.staging_names.specs.declared.staged_name.Marker as marker
use Rattle.staging_names.specs.declared.staged_name.Side.TheVariants.{At, Back}
use Rattle.staging_names.specs.declared.standing.Standing.{Standing}
use Rattle.staging_names.specs.Names.{journal_name}
use Rattle.staging_names.specs.Tests.{journal_of}
use Rattle.step_trees.specs.Entries.{rest}
use Rattle.tree_core.proofs.Moments.{durable-sync, goes_on-sync, pending-durable}
use Rattle.tree_core.proofs.Sound.{sound_then}
use Rattle.tree_core.specs.declared.node.CallName.{CallName}
use Rattle.tree_core.specs.declared.node.Change.{Change}
use Rattle.tree_core.specs.declared.node.Change.TheVariants.{Sync}
use Rattle.tree_core.specs.declared.node.Node.{Node}
use Rattle.tree_core.specs.FileTree.{FileTree, IsAbsent, IsDir, IsTree}
use Rattle.tree_core.specs.History.{History, Then, IsDurable, IsSound, LeavesOnly, current_tree}
use Rattle.tree_core.specs.Runs.{FailedCall}
use Rattle.commit_recover.proofs.CanLemmas.{all_unstages, others_read, standing_is}
use Rattle.commit_recover.proofs.EntryLemmas.{are_entries}
use Rattle.commit_recover.proofs.FoundLemmas.{not_both}
use Rattle.commit_recover.proofs.RowLemmas.{back_shows, dir_at, forward_shows, not_bad, not_foreign, not_there, row_found, same_steps, sealed_most, shown_journal, undone_most}
use Rattle.commit_recover.proofs.TaskLemmas.{course_by, course_planned, end_by, end_planned}

module _ (steps : List Step) (old new : FileTree) (fresh : List Node) (tree_old : IsTree old) (absent_old : IsAbsent old staging) (few : length fresh ≤ 2 ^ 32)
    (begun : History) (sound : IsSound begun) (moments : LeavesOnly begun begun (IsInterrupted steps old new fresh)) where
  abbrev P : FileTree → Type 0
  P = IsInterrupted steps old new fresh

  abbrev t : FileTree
  t = current_tree begun

  abbrev synced : History
  synced = Then begun Sync

  -- ---- a course that leads home

  abbrev Home : FileTree → (History → Course) → Type 0
  Home target course = LeadsHome P target begun begun course

  like : (target : FileTree) (one two : History → Course) → one synced ≡ two synced → Home target one → Home target two
  like target one two same home = record {
    lawful = sym (ap (λ (c : Course). c.strange) same) ∙ home.lawful;
    leads = subst (λ (c : Course). LeadsSafely P target begun begun (Sync ∷ c.calls)) same home.leads;
  }

  synced_moments : P t → LeavesOnly begun synced P
  synced_moments row = goes_on-sync begun begun P moments row

  -- the sync failed
  sync_fate : (now : History) (before : FileTree) (first : CallName) → P t → FailedCall Sync begun now before first → LeavesOnly begun now P
  sync_fate now before first row failed = ⊎_elim
      (λ is. subst (λ (h : History). LeavesOnly begun h P) (sym is) moments)
      (λ is. subst (λ (h : History). LeavesOnly begun h P) (sym is) (synced_moments row)) failed.fate

  sync_first : (target : FileTree) (calls : List Change) → P t → LeadsSafely P target begun synced calls → LeadsSafely P target begun begun (Sync ∷ calls)
  sync_first target calls row safe = record {
    can = (tt, safe.can);
    moments = safe.moments;
    failed = λ last before first failed. ⊎_elim (λ here. sync_fate last before first row here) (λ more. safe.failed last before first more) failed;
    target_stands = safe.target_stands;
    durable = safe.durable;
  }

  -- ---- the rows

  -- What was found leads home by its course, to the tree of the row, and that is told.
  record GoesHome (way : Bool) (row : P t) (l : Leftovers) : Type 0 where
    home : Home (ending way row) (λ h. course_of l way h)
    tells : end_of l way ≡ told way row

  module _ (l : Leftovers) (found : HasFound begun l) where
    steps_are : (j : journal.Journal) → journal_of (found_in t) ≡ Some j → JournalAt (IsJournalText steps) t (journal_name j) → l.steps ≡ steps
    steps_are j is at = same_steps steps t (journal_name j) at l.steps (subst (λ (x : Option journal.Journal). HasSteps t x l.steps) is found.standing.steps)

    entries_are : l.steps ≡ steps → AreEntries steps t l.entries.items
    entries_are same = subst (λ (s : List Step). AreEntries s t l.entries.items) same
        (are_entries l.found.items l.names.items found.sorted.named l.steps found.sorted.steps l.entries.items found.sorted.entries t found.standing.found)

    journal_is : (j : Option journal.Journal) → journal_of (found_in t) ≡ j → l.standing.journal ≡ j
    journal_is j is = ap (λ (s : Standing). s.journal) (standing_is begun l found) ∙ is

    marked : (m : marker.Marker) → Shows t (Some Plan) (Some m) → l.standing ≡ record { journal = Some Plan; marker = Some m }
    marked m shows = standing_is begun l found ∙ shows.standing

    journal_shown : (m : marker.Marker) → Shows t (Some Plan) (Some m) → journal_of (found_in t) ≡ Some Plan
    journal_shown m shows = ap (λ (s : Standing). s.journal) shows.standing

    stopped : (target : FileTree) → IsStaging target t → (target ≡ old) ⊎ (target ≡ new) → P t → Unplanned (IsJournalText steps) steps old new fresh target begun synced
    stopped target reads which row =
        let pending = pending-durable synced (IsStaging target) (durable-sync begun) (sound_then Sync begun sound tt) reads in
        record { moments = synced_moments row; sound = sound_then Sync begun sound tt; reads = reads; each = pending.each }

    early_home : (dir : IsDir t staging) (only : _) (which : (rest t ≡ old) ⊎ (rest t ≡ new)) (way : Bool) → GoesHome way (no_journal dir only which) l
    early_home dir only which way =
        let none = journal_is None (shown_journal t dir None _ (early_shows t only)) in
        let row : P t = no_journal dir only which in
        let reads : IsStaging (rest t) t = inr (record { dir = dir; only = only; is = refl }) in
        let safe = unplanned_back (IsJournalText steps) steps old new fresh (rest t) begun synced which (stopped (rest t) reads which row) l.names.items (all_unstages begun l found none) in
        record {
          home = like (rest t) (λ h. clearing l.names.items) (λ h. course_of l way h) (sym (course_by l None none way synced))
              (record { lawful = refl; leads = sync_first (rest t) (unstage_calls l.names.items ++ Sync ∷ []) row safe });
          tells = end_by l None none way;
        }

    forward_home : (leads : _) (m : ℕ) (u : FileTree) (le : m ≤ length steps) (some : _) (st : _) (way : Bool) → GoesHome way (forward leads m u le some st) l
    forward_home leads m u le some st way =
        let shows = forward_shows steps t sound.tree old new fresh leads u m le some st in
        let one : marker.Marker = record { side = At; number = m } in
        let same = steps_are Plan (journal_shown one shows) st.journal in
        let entries = entries_are same in
        let halted : Halted (IsJournalText steps) steps old new fresh begun begun = record { m = m; u = u; le = le; comes = some; stands = st; moments = moments; sound = sound } in
        by_way way (marked one shows) same halted entries
      where
        by_way : (w : Bool) → l.standing ≡ record { journal = Some Plan; marker = Some (record { side = At; number = m }) } → l.steps ≡ steps
            → (h : Halted (IsJournalText steps) steps old new fresh begun begun) → AreEntries steps t l.entries.items → GoesHome w (forward leads m u le some st) l
        by_way false is same h entries = record {
          home = like new (forward_from steps m l.entries.items) (λ x. course_of l false x)
              (ap (λ (s : List Step). forward_from s m l.entries.items synced) (sym same) ∙ sym (course_planned l (record { side = At; number = m }) is false synced))
              (halts_lead_forward Read steps old new fresh l.entries.items begun begun leads (record { m = m; u = u; le = le; comes = some; stands = st; moments = moments; sound = sound }) entries);
          tells = end_planned l (record { side = At; number = m }) is false;
        }
        by_way true is same h entries = record {
          home = like old (turned_back_from steps m l.entries.items) (λ x. course_of l true x)
              (ap (λ (s : List Step). turned_back_from s m l.entries.items synced) (sym same) ∙ sym (course_planned l (record { side = At; number = m }) is true synced))
              (halts_lead_back Read steps old new fresh l.entries.items begun begun leads tree_old absent_old few (record { m = m; u = u; le = le; comes = some; stands = st; moments = moments; sound = sound }) entries);
          tells = end_planned l (record { side = At; number = m }) is true;
        }

    back_home : (leads : _) (k m : ℕ) (u : FileTree) (le : m ≤ length steps) (cut : _) (some : _) (st : _) (way : Bool) → GoesHome way (back leads k m u le cut some st) l
    back_home leads k m u le cut some st way =
        let shows = back_shows steps t sound.tree old new fresh leads u k m le cut some st in
        let one : marker.Marker = record { side = Back; number = m } in
        let is = marked one shows in
        let same = steps_are Plan (journal_shown one shows) st.journal in
        record {
          home = like old (back_from steps m l.entries.items) (λ x. course_of l way x)
              (ap (λ (s : List Step). back_from s m l.entries.items synced) (sym same) ∙ sym (course_planned l one is way synced))
              (turned_lead_back Read steps old new fresh l.entries.items begun begun leads tree_old absent_old few
              (record { k = k; m = m; u = u; le = le; cut = cut; comes = some; stands = st; moments = moments; sound = sound }) (entries_are same));
          tells = end_planned l one is way;
        }

    sealed_home : (leads : _) (dir : IsDir t staging) (at : JournalAt (IsJournalText steps) t sealed) (only : _) (is : rest t ≡ new) (way : Bool) → GoesHome way (behind_seal leads dir at only is) l
    sealed_home leads dir at only is way =
        let last = journal_is (Some Done) (shown_journal t dir (Some Done) _ (sealed_most steps t sound.tree at only)) in
        record {
          home = like new (λ h. closing sealed (other_items l)) (λ h. course_of l way h) (sym (course_by l (Some Done) last way synced))
              (seals_lead_forward Read steps old new fresh (other_items l) begun begun leads (record { dir = dir; journal = at; only = only; is = is; moments = moments; sound = sound }) (others_read begun l found Done last));
          tells = end_by l (Some Done) last way;
        }

    undone_home : (leads : _) (dir : IsDir t staging) (at : JournalAt (IsJournalText steps) t undone) (only : _) (is : rest t ≡ old) (way : Bool) → GoesHome way (all_undone leads dir at only is) l
    undone_home leads dir at only is way =
        let last = journal_is (Some Undone) (shown_journal t dir (Some Undone) _ (undone_most steps t sound.tree at only)) in
        record {
          home = like old (λ h. closing undone (other_items l)) (λ h. course_of l way h) (sym (course_by l (Some Undone) last way synced))
              (undone_lead_back Read steps old new fresh (other_items l) begun begun leads (record { dir = dir; journal = at; only = only; is = is; moments = moments; sound = sound }) (others_read begun l found Undone last));
          tells = end_by l (Some Undone) last way;
        }

    goes_home : (way : Bool) (row : P t) → GoesHome way row l
    goes_home way (nothing_staged none which) = absurd (not_there t none found.standing.dir)
    goes_home way (no_journal dir only which) = early_home dir only which way
    goes_home way (forward leads m u le some st) = forward_home leads m u le some st way
    goes_home way (back leads k m u le cut some st) = back_home leads k m u le cut some st way
    goes_home way (behind_seal leads dir at only is) = sealed_home leads dir at only is way
    goes_home way (all_undone leads dir at only is) = undone_home leads dir at only is way

  -- ---- what is answered

  module _ (way : Bool) (row : P t) (now : History) where
    told_not_strange : (k : ℕ) → end.Strange k ≡ told way row → ⊥
    told_not_strange k is = by_row way row is
      where
        by_row : (w : Bool) (r : P t) → end.Strange k ≡ told w r → ⊥
        by_row w (nothing_staged none which) e = cc
        by_row w (no_journal dir only which) e = cc
        by_row false (forward leads m u le some st) e = cc
        by_row true (forward leads m u le some st) e = cc
        by_row w (back leads k m u le cut some st) e = cc
        by_row w (behind_seal leads dir at only is) e = cc
        by_row w (all_undone leads dir at only is) e = cc

    module _ (ended : RecoverEnd) (c : IsCarriedOut way begun now ended) where
      abbrev h : GoesHome way row c.left
      h = goes_home c.left c.found way row

      carried_moments : LeavesOnly begun now P
      carried_moments = subst (λ (x : History). LeavesOnly begun x P) (sym c.history) h.home.leads.moments

      carried_end : ended ≡ told way row
      carried_end = c.ends ∙ ap (λ (s : Option ℕ). unless_strange s (end_of c.left way)) h.home.lawful ∙ h.tells

      at_its_end : IsAtItsEnd way row now ended
      at_its_end = record {
        is_told = carried_end;
        stands = ap current_tree c.history ∙ h.home.leads.target_stands;
        durable = subst IsDurable (sym c.history) h.home.leads.durable;
      }

    stop_moments : (before : FileTree) (first : CallName) → IsStopped way begun now before first → LeavesOnly begun now P
    stop_moments before first s =
        let home = (goes_home s.left s.found way row).home in
        ⊎_elim
        (λ failed. home.leads.failed now before first failed)
        (λ looked. let le = moments.later in subst (λ (x : History). LeavesOnly begun x P) (sym looked.history)
        (on_the_way begun P looked.count begun (Sync ∷ (course_behind s.left way begun).calls) le home.leads.moments))
        s.where_failed

    fault_moments : (before : FileTree) (first : CallName) → Faulted way begun now before first → LeavesOnly begun now P
    fault_moments before first (inl same) = subst (λ (x : History). LeavesOnly begun x P) (sym same.0) moments
    fault_moments before first (inr (inl (none, inl here))) = sync_fate now before first row here
    fault_moments before first (inr (inl (none, inr nothing))) = absurd nothing
    fault_moments before first (inr (inr s)) = stop_moments before first s

    settled : IsAbsent t staging → now ≡ synced → LeavesOnly begun now P × IsAtItsEnd way row now end.Nothing
    settled none is = (
      subst (λ (x : History). LeavesOnly begun x P) (sym is) (synced_moments row),
      by_row row,
    )
      where
        by_row : (r : P t) → IsAtItsEnd way r now end.Nothing
        by_row (nothing_staged none which) = record { is_told = refl; stands = ap current_tree is; durable = subst IsDurable (sym is) (durable-sync begun) }
        by_row (no_journal dir only which) = absurd (not_there t none dir)
        by_row (forward leads m u le some st) = absurd (not_there t none (dir_at steps t sound.tree plan st.journal))
        by_row (back leads k m u le cut some st) = absurd (not_there t none (dir_at steps t sound.tree plan st.journal))
        by_row (behind_seal leads dir at only is) = absurd (not_there t none dir)
        by_row (all_undone leads dir at only is) = absurd (not_there t none dir)

    foreign_not : (name : List ℕ) → IsForeign t name → ⊥
    foreign_not name (no_directory stands no_dir is) = by_row row
      where
        by_row : P t → ⊥
        by_row (nothing_staged none which) = not_both (sym stands ∙ ap is_some none)
        by_row (no_journal dir only which) = not_both (sym dir ∙ no_dir)
        by_row (forward leads m u le some st) = not_both (sym (dir_at steps t sound.tree plan st.journal) ∙ no_dir)
        by_row (back leads k m u le cut some st) = not_both (sym (dir_at steps t sound.tree plan st.journal) ∙ no_dir)
        by_row (behind_seal leads dir at only is) = not_both (sym dir ∙ no_dir)
        by_row (all_undone leads dir at only is) = not_both (sym dir ∙ no_dir)
    foreign_not name (by_name dir place foreign at) = not_foreign t (row_found steps old new fresh t sound.tree dir row) name (by_name dir place foreign at)
    foreign_not name (by_count dir none also has place beyond at) = not_foreign t (row_found steps old new fresh t sound.tree dir row) name (by_count dir none also has place beyond at)

    pub by_answer : (before : FileTree) (ended : RecoverEnd) → Answers way begun now before ended → LeavesOnly begun now P × EndsBy way row begun now ended
    by_answer before end.Nothing (none, is) = settled none is
    by_answer before end.Edited c = (carried_moments end.Edited c, at_its_end end.Edited c)
    by_answer before end.Old c = (carried_moments end.Old c, at_its_end end.Old c)
    by_answer before end.Cleared c = (carried_moments end.Cleared c, at_its_end end.Cleared c)
    by_answer before end.Memory is = (subst (λ (x : History). LeavesOnly begun x P) (sym is) moments, is)
    by_answer before (end.TreeFault first) fault = (fault_moments before first fault, tt)
    by_answer before (end.BadJournal offset) (bad, is) = absurd (not_bad t (row_found steps old new fresh t sound.tree bad.dir row) offset bad)
    by_answer before (end.Foreign name) (foreign, is) = absurd (foreign_not name foreign)
    by_answer before (end.Strange k) c = absurd (told_not_strange k (carried_end (end.Strange k) c))

pub answers_recover : (way : Bool) (begun now : History) (before : FileTree) (ended : RecoverEnd) → IsSound begun → Answers way begun now before ended → Recovers way begun now ended
answers_recover way begun now before ended sound answers steps old new fresh tree absent few moments row = by_answer steps old new fresh tree absent few begun sound moments way row now before ended answers
