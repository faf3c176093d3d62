-- Where no step is to be done or undone, what stands in the staging directory is removed.
use Rattle.std.proofs.Common.{◌≡◌, ◌⊎◌, inl, inr, ⊎_elim, ℕ, false, List, [], ◌∷◌, ◌++◌, refl, ◌∙◌, ap, subst, Option, Some, None, is_some, IsTrue, length}
use Rattle.std.specs.FinMap.{get}
use Rattle.std.specs.List.{AllByRecursion}
use Rattle.commit_states.proofs.LawLemmas.{leads_safely, seals_go_on, undone_go_on}
use Rattle.commit_states.proofs.ReadLemmas.{IsItem, early_no_dir, early_suffice, sealed_suffice, undone_suffice}
use Rattle.commit_states.proofs.ReadNameLemmas.{names_read}
use Rattle.commit_states.proofs.TextLemmas.{of_kind}
use Rattle.commit_states.proofs.UnstageLemmas.{safe_unstage, done_unstage}
use Rattle.commit_states.specs.Calls.{unstage_calls}
use Rattle.commit_states.specs.Interrupted.{IsInterruptedBy, nothing_staged, no_journal}
use Rattle.commit_states.specs.Reads.{AreRead, files, items_in}
use Rattle.commit_states.specs.Stops.{Filling, IsEarly, IsStaging, Unplanned}
use Rattle.commit_steps.specs.declared.step.Step.{Step}
use Rattle.commit_steps.specs.Staging.{staging, staged}
use Rattle.recovery_courses.specs.Ends.{clearing}
use Rattle.recovery_courses.specs.Course.{these}
use Rattle.recovery_courses.specs.Laws.{LeadsHome, SealsLeadForward, UndoneLeadBack, UnplannedLeadBack, UnstagedLeadBack}
use Rattle.step_trees.proofs.RemovalLemmas.{no_dir}
use Rattle.step_trees.specs.Entries.{HoldsOnly}
use Rattle.tree_core.proofs.Moments.{Pending, durable-sync, goes_on-sync, pending-durable}
use Rattle.tree_core.proofs.Sound.{sound_then}
use Rattle.tree_core.specs.declared.node.Change.TheVariants.{Sync}
use Rattle.tree_core.specs.declared.node.Node.{Node}
use Rattle.tree_core.specs.Fields.{names_in}
use Rattle.tree_core.specs.FileTree.{FileTree, IsAbsent, IsDir, is_dir_node}
use Rattle.tree_core.specs.History.{History, Then, LeavesOnly, current_tree}

pub seals_lead_forward : SealsLeadForward
seals_lead_forward kind steps old new fresh xs began now leads b read = record {
  lawful = refl;
  leads = seals_go_on _ steps (of_kind kind steps) old new fresh began now leads b xs (sealed_suffice (current_tree now) (length steps) b.only xs read);
}

pub undone_lead_back : UndoneLeadBack
undone_lead_back kind steps old new fresh xs began now leads b read = record {
  lawful = refl;
  leads = undone_go_on _ steps (of_kind kind steps) old new fresh began now leads b xs (undone_suffice (current_tree now) b.only xs read);
}

-- ---- without a journal

-- what stands there isn't a directory
pub files_are : (t : FileTree) → HoldsOnly t IsEarly → (names : List (List ℕ)) → AllByRecursion (IsItem t (λ name. ⊥)) (items_in t names) → items_in t names ≡ files names
files_are t only [] each = refl
files_are t only (n ∷ names) each =
    ap (λ b. (n, b) ∷ items_in t names) (by_node (get t (staged n)) refl (each.0).1) ∙ ap (λ xs. (n, false) ∷ xs) (files_are t only names each.1)
  where
    by_node : (o : Option Node) → get t (staged n) ≡ o → IsTrue (is_some (get t (staged n))) → is_dir_node (get t (staged n)) ≡ false
    by_node None e stands = ap is_dir_node e
    by_node (Some node) e stands = ap is_dir_node e ∙ early_no_dir n node (only n node e)

module _ (Text : List ℕ → Type 0) (steps : List Step) (old new : FileTree) (fresh : List Node) (target : FileTree) (began now : History) (which : (target ≡ old) ⊎ (target ≡ new))
    (stop : Unplanned Text steps old new fresh target began now) where
  abbrev P : FileTree → Type 0
  P = IsInterruptedBy Text steps old new fresh

  abbrev t : FileTree
  t = current_tree now

  abbrev synced : History
  synced = Then now Sync

  is_row : (u : FileTree) → IsStaging target u → P u
  is_row u (inl none) = nothing_staged none.0 (⊎_elim (λ e. inl (none.1 ∙ e)) (λ e. inr (none.1 ∙ e)) which)
  is_row u (inr f) = no_journal f.dir f.only (⊎_elim (λ e. inl (f.is ∙ e)) (λ e. inr (f.is ∙ e)) which)

  synced_moments : LeavesOnly began synced P
  synced_moments = goes_on-sync began now P stop.moments (is_row t stop.reads)

  pending : Pending synced (IsStaging target)
  pending = pending-durable synced (IsStaging target) (durable-sync now) (sound_then Sync now stop.sound tt) stop.reads

  filled : IsDir t staging → Filling target t
  filled dir = by_reads stop.reads
    where
      by_reads : IsStaging target t → Filling target t
      by_reads (inl none) = absurd (no_dir t staging none.0 dir)
      by_reads (inr f) = f

  pub unplanned_clear : IsDir t staging → LeadsHome P target began now (λ h. clearing (names_in t staging))
  unplanned_clear dir =
      let f = filled dir in
      let names = names_in t staging in
      let read : AreRead t (λ name. ⊥) (files names) = subst (AreRead t (λ name. ⊥)) (files_are t f.only names (names_read t).each) (names_read t) in
      let can = early_suffice t dir f.only names read in
      record {
        lawful = refl;
        leads = leads_safely P target began now (Sync ∷ (unstage_calls names ++ Sync ∷ []))
            (stop.moments, tt, safe_unstage target names began synced P is_row synced_moments pending can)
            (done_unstage target names began synced P is_row synced_moments pending can);
      }

  pub unstaged_clear : IsAbsent t staging → LeadsHome P target began now (λ h. these [])
  unstaged_clear absent = record { lawful = refl; leads = leads_safely P target began now (Sync ∷ []) (stop.moments, tt, synced_moments) (by_reads stop.reads, durable-sync now) }
    where
      by_reads : IsStaging target t → t ≡ target
      by_reads (inl none) = none.1
      by_reads (inr f) = absurd (no_dir t staging absent f.dir)

pub unplanned_lead_back : UnplannedLeadBack
unplanned_lead_back kind steps old new fresh target began now which stop dir = unplanned_clear _ steps old new fresh target began now which stop dir

pub unstaged_lead_back : UnstagedLeadBack
unstaged_lead_back kind steps old new fresh target began now which stop absent = unstaged_clear _ steps old new fresh target began now which stop absent
