-- The courses lead home from where a commit was stopped.
use Rattle.std.proofs.Common.{◌≡◌, ℕ, ◌≤◌, ◌<◌, ◌^◌, List, ◌∷◌, length, take, refl, arith, IsTrue}
use Rattle.std.specs.FinMap.{insert}
use Rattle.std.specs.List.{AllByRecursion}
use Rattle.commit_states.proofs.FreshLemmas.{fresh_entries_of, fresh_for, length-fresh_for, no_dirs_in}
use Rattle.commit_states.proofs.LawLemmas.{leads_safely}
use Rattle.commit_states.proofs.BackLemmas.{Returning}
use Rattle.commit_states.proofs.LoopLemmas.{Ready}
use Rattle.commit_states.proofs.TextLemmas.{of_kind}
use Rattle.commit_states.specs.Calls.{CleansItems, fresh_items}
use Rattle.commit_states.specs.Interrupted.{AreJournals, IsInterruptedBy, StandsAs, back, forward}
use Rattle.commit_states.specs.Stops.{Halted, Turned}
use Rattle.commit_steps.specs.declared.step.Step.{Step}
use Rattle.commit_steps.specs.Staging.{staging, plan, at_marker, back_marker}
use Rattle.commit_steps.specs.Steps.{HasPaths}
use Rattle.recovery_courses.proofs.BackwardLemmas.{steps_back, turn_back}
use Rattle.recovery_courses.proofs.CourseLemmas.{Goes, goes_then}
use Rattle.recovery_courses.proofs.EntryLemmas.{of_last_cut, of_next_cut, seen_among}
use Rattle.recovery_courses.proofs.ForwardLemmas.{steps_go}
use Rattle.recovery_courses.proofs.RevokingLemmas.{revoke_goes}
use Rattle.recovery_courses.proofs.SealingLemmas.{seal_goes}
use Rattle.recovery_courses.specs.Course.{Course}
use Rattle.recovery_courses.specs.Ends.{stands_in, revoking, sealing, forward_from, back_from, turned_back_from}
use Rattle.recovery_courses.specs.Laws.{AreEntries, IsAmong, LeadsHome, HaltsLeadForward, HaltsLeadBack, TurnedLeadBack}
use Rattle.recovery_courses.specs.Parts.{parts_behind, redone_parts, turned_from, undone_from}
use Rattle.staging_names.specs.declared.entry_name.EntryName.{EntryName}
use Rattle.step_trees.proofs.LawLemmas.{by_places, free_at}
use Rattle.step_trees.proofs.LeadLemmas.{Led, led}
use Rattle.step_trees.proofs.NameLemmas.{differ, i-plan, i-at, i-back, own-at, own-back}
use Rattle.step_looks.proofs.TellLemmas.{free_cut}
use Rattle.step_trees.specs.Groups.{groups, to_next_cut, from_last_cut}
use Rattle.step_trees.specs.Leads.{start, Leads}
use Rattle.step_trees.specs.Steps.{after}
use Rattle.tree_core.specs.declared.node.Change.TheVariants.{Sync}
use Rattle.tree_core.specs.declared.node.Node.{Node}
use Rattle.tree_core.specs.declared.node.Node.TheVariants.{Dir}
use Rattle.tree_core.specs.FileTree.{FileTree, IsAbsent, IsTree}
use Rattle.tree_core.specs.History.{History, Then, IsDurable, IsSound, LeavesOnly, current_tree}
use Rattle.tree_core.specs.Runs.{then_all}
use Rattle.tree_core.proofs.Moments.{durable-sync, goes_on-sync}
use Rattle.tree_core.proofs.Sound.{sound_then}

-- A safe course behind a sync leads home.
pub leads_home : (P : FileTree → Type 0) (target : FileTree) (began now : History) (course : History → Course) → LeavesOnly began now P
    → Goes began P (λ x. (current_tree x ≡ target) × IsDurable x) (Then now Sync) (course (Then now Sync)) → LeadsHome P target began now course
leads_home P target began now course moments goes = record {
  lawful = goes.lawful;
  leads = leads_safely P target began now (Sync ∷ (course (Then now Sync)).calls) (moments, tt, goes.safe) goes.reaches;
}

module _ (Text : List ℕ → Type 0) (steps : List Step) (are : AreJournals Text steps) (old new : FileTree) (fresh : List Node) (es : List EntryName) (began now : History) (leads : Leads steps old new fresh) where
  abbrev P : FileTree → Type 0
  P = IsInterruptedBy Text steps old new fresh

  abbrev place : ℕ → FileTree
  place k = after (take k steps) (start old fresh)

  abbrev t : FileTree
  t = current_tree now

  paths_of : (marker : List ℕ) (u : FileTree) → StandsAs Text marker u t → AllByRecursion HasPaths steps
  paths_of marker u s = (are s.journal.bytes s.journal.spelled).journal.journal.spelled.paths

  few_of : (marker : List ℕ) (u : FileTree) → StandsAs Text marker u t → length steps < 2 ^ 32
  few_of marker u s = (are s.journal.bytes s.journal.spelled).journal.journal.few

  -- whatever stands at some place is among the entries
  abbrev AllSeen : Type 0
  AllSeen = (j : ℕ) (e : EntryName) → e.number < 2 ^ 32 → IsTrue (stands_in (place j) e) → IsAmong e es

  module _ (h : Halted Text steps old new fresh began now) (entries : AreEntries steps t es) where
    abbrev synced : History
    synced = Then now Sync

    halt_led : Led steps old new fresh
    halt_led = led steps old new fresh leads (paths_of (at_marker h.m) h.u h.stands)

    halt_few : length steps < 2 ^ 32
    halt_few = few_of (at_marker h.m) h.u h.stands

    halt_seen : AllSeen
    halt_seen = seen_among Text steps old new fresh halt_led h.m (to_next_cut h.m (groups steps)) (free_at steps old new fresh halt_led h.m h.le) (λ p of. of_next_cut p h.m steps of) h.u h.comes
        (at_marker h.m) (own-at h.m) (differ plan (at_marker h.m) 112 97 i-plan (i-at h.m) refl) t h.sound.tree h.stands es entries

    halt_moments : LeavesOnly began synced P
    halt_moments = goes_on-sync began now P h.moments (forward leads h.m h.u h.le h.comes h.stands)

    halt_sound : IsSound synced
    halt_sound = sound_then Sync now h.sound tt

    pub halts_forward : LeadsHome P new began now (forward_from steps h.m es)
    halts_forward = leads_home P new began now (forward_from steps h.m es) h.moments
        (goes_then began P (λ x. Ready Text steps old new fresh began x (length steps)) (λ x. (current_tree x ≡ new) × IsDurable x) synced (redone_parts h.m (parts_behind steps h.m) synced) (sealing (length steps) es)
        (steps_go Text steps old new fresh halt_led halt_few began synced h.m h.u h.le h.comes halt_moments (durable-sync now) halt_sound h.stands)
        (λ r. seal_goes Text steps old new fresh halt_led halt_few began es entries.small entries.ordered (halt_seen (length steps)) (then_all synced (redone_parts h.m (parts_behind steps h.m) synced).calls) r))

  -- ---- back

  module _ (tree : IsTree old) (absent : IsAbsent old staging) (few_fresh : length fresh ≤ 2 ^ 32) (entries : AreEntries steps t es) where
    cleans : CleansItems (fresh_items 0 (fresh_for fresh)) (start old fresh)
    cleans = fresh_entries_of old fresh (fresh_for fresh) (length-fresh_for fresh) tree absent (no_dirs_in fresh 0 (insert old staging (Dir 0o700)) (omega arith) ((by_places steps old new fresh leads).holds 0).only) few_fresh

    abbrev Old : History → Type 0
    Old x = (current_tree x ≡ old) × IsDurable x

    abbrev First : History → Type 0
    First x = Returning Text steps old new fresh began x 0

    pub halts_back : (h : Halted Text steps old new fresh began now) → LeadsHome P old began now (turned_back_from steps h.m es)
    halts_back h =
        let l = halt_led h entries in
        let few = halt_few h entries in
        let synced = Then now Sync in
        leads_home P old began now (turned_back_from steps h.m es) h.moments
        (goes_then began P First Old synced (turned_from steps h.m synced) (revoking es)
        (turn_back Text steps old new fresh l few began tree absent (fresh_for fresh) cleans synced h.m h.u h.le h.comes (halt_moments h entries) (durable-sync now) (halt_sound h entries) h.stands)
        (λ r. revoke_goes Text steps old new fresh l few tree absent few_fresh cleans began es entries.small entries.ordered (halt_seen h entries 0) (then_all synced (turned_from steps h.m synced).calls) r))

    pub turned_back : (b : Turned Text steps old new fresh began now) → LeadsHome P old began now (back_from steps b.m es)
    turned_back b =
        let paths = paths_of (back_marker b.m) b.u b.stands in
        let l = led steps old new fresh leads paths in
        let few = few_of (back_marker b.m) b.u b.stands in
        let synced = Then now Sync in
        let moments : LeavesOnly began synced P = goes_on-sync began now P b.moments (back leads b.k b.m b.u b.le b.cut b.comes b.stands) in
        let seen : AllSeen = seen_among Text steps old new fresh l b.k (from_last_cut b.m (groups steps)) (free_cut steps old new fresh leads paths b.k b.m b.le b.cut) (λ p of. of_last_cut p b.m steps of) b.u b.comes
        (back_marker b.m) (own-back b.m) (differ plan (back_marker b.m) 112 98 i-plan (i-back b.m) refl) t b.sound.tree b.stands es entries in
        leads_home P old began now (back_from steps b.m es) b.moments
        (goes_then began P First Old synced (undone_from steps b.m synced) (revoking es)
        (steps_back Text steps old new fresh l few began synced b.k b.m b.u b.le b.cut b.comes moments (durable-sync now) (sound_then Sync now b.sound tt) b.stands)
        (λ r. revoke_goes Text steps old new fresh l few tree absent few_fresh cleans began es entries.small entries.ordered (seen 0) (then_all synced (undone_from steps b.m synced).calls) r))

pub halts_lead_forward : HaltsLeadForward
halts_lead_forward kind steps old new fresh es began now leads h entries = halts_forward _ steps (of_kind kind steps) old new fresh es began now leads h entries

pub halts_lead_back : HaltsLeadBack
halts_lead_back kind steps old new fresh es began now leads tree absent few h entries = halts_back _ steps (of_kind kind steps) old new fresh es began now leads tree absent few entries h

pub turned_lead_back : TurnedLeadBack
turned_lead_back kind steps old new fresh es began now leads tree absent few b entries = turned_back _ steps (of_kind kind steps) old new fresh es began now leads tree absent few entries b
