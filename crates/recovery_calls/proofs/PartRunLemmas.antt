-- A part that is done or undone, with its marker, as code does it.
use Rattle.std.proofs.Common.{◌≡◌, ℕ, ◌+◌, ◌<◌, ◌^◌, List, length, reverse, sym, ◌∙◌, ap, subst}
use Rattle.commit_calls.specs.Parts.{synced_rename_calls}
use Rattle.commit_states.specs.Calls.{do_calls, undo_calls}
use Rattle.commit_steps.specs.declared.step.Step.{Step}
use Rattle.commit_steps.specs.Staging.{at_marker, back_marker, plan, staged}
use Rattle.dired_text.specs.Paths.{Names}
use Rattle.recovery_calls.specs.Underway.{IsUnderway}
use Rattle.recovery_calls.proofs.MarkerLemmas.{at_named, at_plan, back_named, back_plan}
use Rattle.recovery_calls.proofs.PartLemmas.{AreSteps, can_rename_synced, redone_kept, renamed_synced, undone_kept}
use Rattle.recovery_courses.specs.Course.{going_on, these}
use Rattle.recovery_courses.specs.Parts.{redone_part, undone_part}
use Rattle.staging_names.specs.declared.entry_name.EntryName.{EntryName}
use Rattle.step_looks.specs.Redoing.{strange_redo, to_redo}
use Rattle.step_looks.specs.Strictly.{strange_back, to_undo_strictly}
use Rattle.step_trees.proofs.NameLemmas.{at_injects, back_injects, own-at, own-back, own-plan}
use Rattle.tree_core.specs.History.{History, IsSound, current_tree}
use Rattle.tree_core.specs.Runs.{CanAll, then_all}

-- ---- the calls, as code makes them

module _ (k : ℕ) (part steps : List Step) (same : steps ≡ part) (from : ℕ) (from_is : from ≡ k) (marker next : Names) (h : History) where
  pub redone_is : marker ≡ staged (at_marker k) → next ≡ staged (at_marker (k + length part))
      → going_on (do_calls (to_redo steps (current_tree h))) (strange_redo from steps (current_tree h)) (these (synced_rename_calls marker next)) ≡ redone_part k part h
  redone_is marker_is next_is =
      ap (λ (l : List Step). going_on (do_calls (to_redo l (current_tree h))) (strange_redo from l (current_tree h)) (these (synced_rename_calls marker next))) same
      ∙ ap (λ n. going_on (do_calls (to_redo part (current_tree h))) (strange_redo n part (current_tree h)) (these (synced_rename_calls marker next))) from_is
      ∙ ap (λ (p : Names). going_on (do_calls (to_redo part (current_tree h))) (strange_redo k part (current_tree h)) (these (synced_rename_calls p next))) marker_is
      ∙ ap (λ (p : Names). going_on (do_calls (to_redo part (current_tree h))) (strange_redo k part (current_tree h)) (these (synced_rename_calls (staged (at_marker k)) p))) next_is

  pub undone_as : marker ≡ staged (back_marker (k + length part)) → next ≡ staged (back_marker k)
      → going_on (undo_calls (to_undo_strictly (reverse steps) (current_tree h))) (strange_back from (reverse steps) (current_tree h)) (these (synced_rename_calls marker next)) ≡ undone_part k part h
  undone_as marker_is next_is =
      ap (λ (l : List Step). going_on (undo_calls (to_undo_strictly (reverse l) (current_tree h))) (strange_back from (reverse l) (current_tree h)) (these (synced_rename_calls marker next))) same
      ∙ ap (λ n. going_on (undo_calls (to_undo_strictly (reverse part) (current_tree h))) (strange_back n (reverse part) (current_tree h)) (these (synced_rename_calls marker next))) from_is
      ∙ ap (λ (p : Names). going_on (undo_calls (to_undo_strictly (reverse part) (current_tree h))) (strange_back k (reverse part) (current_tree h)) (these (synced_rename_calls p next))) marker_is
      ∙ ap (λ (p : Names). going_on (undo_calls (to_undo_strictly (reverse part) (current_tree h))) (strange_back k (reverse part) (current_tree h)) (these (synced_rename_calls (staged (back_marker (k + length part))) p))) next_is

-- ---- what stands behind the steps

module _ (es : List EntryName) (part steps : List Step) (same : steps ≡ part) (are : AreSteps es part) (began mid : History) (sound : IsSound began) where
  pub redo_there : (m : ℕ) → IsUnderway plan (at_marker m) es (current_tree began) → mid ≡ then_all began (do_calls (to_redo steps (current_tree began))) → IsUnderway plan (at_marker m) es (current_tree mid)
  redo_there m u is =
      let steps_are : AreSteps es steps = subst (AreSteps es) (sym same) are in
      subst (λ (h : History). IsUnderway plan (at_marker m) es (current_tree h)) (sym is) (redone_kept plan (at_marker m) es own-plan (own-at m) steps steps_are began sound u)

  pub undo_there : (m : ℕ) → IsUnderway plan (back_marker m) es (current_tree began) → mid ≡ then_all began (undo_calls (to_undo_strictly (reverse steps) (current_tree began))) → IsUnderway plan (back_marker m) es (current_tree mid)
  undo_there m u is =
      let steps_are : AreSteps es steps = subst (AreSteps es) (sym same) are in
      subst (λ (h : History). IsUnderway plan (back_marker m) es (current_tree h)) (sym is) (undone_kept plan (back_marker m) es own-plan (own-back m) steps steps_are began sound u)

-- ---- and the move of the marker

module _ (es : List EntryName) (k l : ℕ) (small_k : k < 2 ^ 64) (small_l : l < 2 ^ 64) (other : l ≡ k → ⊥) (marker next : Names) (h : History) where
  module _ (marker_is : marker ≡ staged (at_marker k)) (next_is : next ≡ staged (at_marker l)) (u : IsUnderway plan (at_marker k) es (current_tree h)) where
    pub at_can : CanAll (synced_rename_calls marker next) h
    at_can =
        subst (λ (p : Names). CanAll (synced_rename_calls p next) h) (sym marker_is)
        (subst (λ (p : Names). CanAll (synced_rename_calls (staged (at_marker k)) p) h) (sym next_is)
        (can_rename_synced (at_marker k) (at_marker l) es (own-at l) (at_named l small_l) (at_plan l) (λ e. other (at_injects l k small_l small_k e)) h u))

    pub at_moved : IsSound h → (new : History) → new ≡ then_all h (synced_rename_calls marker next) → IsUnderway plan (at_marker l) es (current_tree new)
    at_moved sound new is =
        let calls : synced_rename_calls marker next ≡ synced_rename_calls (staged (at_marker k)) (staged (at_marker l)) =
        ap (λ (p : Names). synced_rename_calls p next) marker_is ∙ ap (λ (p : Names). synced_rename_calls (staged (at_marker k)) p) next_is in
        subst (λ (x : History). IsUnderway plan (at_marker l) es (current_tree x)) (sym (is ∙ ap (then_all h) calls))
        (renamed_synced (at_marker k) (at_marker l) es (own-at l) (at_named l small_l) (at_plan l) (λ e. other (at_injects l k small_l small_k e)) h u sound (λ e. at_plan k (sym e)))

  module _ (marker_is : marker ≡ staged (back_marker k)) (next_is : next ≡ staged (back_marker l)) (u : IsUnderway plan (back_marker k) es (current_tree h)) where
    pub back_can : CanAll (synced_rename_calls marker next) h
    back_can =
        subst (λ (p : Names). CanAll (synced_rename_calls p next) h) (sym marker_is)
        (subst (λ (p : Names). CanAll (synced_rename_calls (staged (back_marker k)) p) h) (sym next_is)
        (can_rename_synced (back_marker k) (back_marker l) es (own-back l) (back_named l small_l) (back_plan l) (λ e. other (back_injects l k small_l small_k e)) h u))

    pub back_moved : IsSound h → (new : History) → new ≡ then_all h (synced_rename_calls marker next) → IsUnderway plan (back_marker l) es (current_tree new)
    back_moved sound new is =
        let calls : synced_rename_calls marker next ≡ synced_rename_calls (staged (back_marker k)) (staged (back_marker l)) =
        ap (λ (p : Names). synced_rename_calls p next) marker_is ∙ ap (λ (p : Names). synced_rename_calls (staged (back_marker k)) p) next_is in
        subst (λ (x : History). IsUnderway plan (back_marker l) es (current_tree x)) (sym (is ∙ ap (then_all h) calls))
        (renamed_synced (back_marker k) (back_marker l) es (own-back l) (back_named l small_l) (back_plan l) (λ e. other (back_injects l k small_l small_k e)) h u sound (λ e. back_plan k (sym e)))
