-- From each row of the table a recovery.
use Rattle.std.proofs.Common.{◌≡◌, ◌⊎◌, inl, inr, ⊎_elim, ℕ, Bool, true, false, not, List, [], ◌∷◌, ◌++◌, length, refl, ◌∙◌, ap, subst, Some, None, Option, is_some, IsTrue, ◌≤◌, ◌^◌, sym, arith}
use Rattle.std.specs.List.{AllByRecursion, filter}
use Rattle.std.specs.FinMap.{get, insert}
use Rattle.std.specs.Str.{bytes_eq}
use Rattle.tree_core.specs.declared.node.Node.{Node}
use Rattle.tree_core.specs.declared.node.Change.{Change}
use Rattle.tree_core.specs.declared.node.Change.TheVariants as call
use Rattle.tree_core.specs.Fields.{names_in}
use Rattle.tree_core.specs.FileTree.{FileTree, IsTree, IsAbsent, IsDir, is_dir_node}
use Rattle.tree_core.specs.History.{History, Then, IsSound, current_tree, LeavesOnly}
use Rattle.tree_core.proofs.Moments.{durable-sync, goes_on-sync, pending-durable, Pending}
use Rattle.tree_core.proofs.Sound.{sound_then}
use Rattle.commit_steps.specs.declared.step.Step.{Step}
use Rattle.commit_steps.specs.Staging.{staging, staged, sealed, undone}
use Rattle.step_trees.specs.Entries.{rest, IsHeld, HoldsOnly}
use Rattle.step_trees.specs.Steps.{after}
use Rattle.step_trees.specs.Leads.{start, at_place, Leads}
use Rattle.commit_states.specs.declared.held.Held.{Held}
use Rattle.commit_states.specs.Interrupted.{AreJournals, IsInterruptedBy, nothing_staged, no_journal, forward, back, behind_seal, all_undone, ending}
use Rattle.commit_states.specs.Calls.{Items, held_items, fresh_items, Cleans, CleansItems, unstage_calls}
use Rattle.commit_states.specs.Stops.{IsEarly, IsStaging}
use Rattle.commit_states.specs.Reads.{AreRead, files, items_in}
use Rattle.commit_states.specs.Laws.{LeadsSafely}
use Rattle.commit_states.proofs.ReadLemmas.{IsItem, early_no_dir, early_suffice, sealed_suffice, undone_suffice, held_suffice}
use Rattle.commit_states.proofs.FreshLemmas.{fresh_entries_of, no_dirs_in, fresh_for, length-fresh_for}
use Rattle.step_trees.proofs.LawLemmas.{by_places}
use Rattle.std.proofs.Math.Seq.{take-length}
use Rattle.commit_states.proofs.ReadNameLemmas.{names_read, others_read}
use Rattle.commit_states.proofs.UnstageLemmas.{safe_unstage, done_unstage}
use Rattle.commit_states.proofs.LawLemmas.{leads_safely, go_forward, turned_go_back, halts_go_back, seals_go_on, undone_go_on}
use Rattle.tree_core.specs.declared.node.Node.TheVariants.{Dir}

-- what stands there isn't a directory
files_are : (t : FileTree) → HoldsOnly t IsEarly → (names : List (List ℕ)) → AllByRecursion (IsItem t (λ name. ⊥)) (items_in t names) → items_in t names ≡ files names
files_are t only [] each = refl
files_are t only (n ∷ names) each =
    ap (λ b. (n, b) ∷ items_in t names) (by_node (get t (staged n)) refl (each.0).1) ∙ ap (λ xs. (n, false) ∷ xs) (files_are t only names each.1)
  where
    by_node : (o : Option Node) → get t (staged n) ≡ o → IsTrue (is_some (get t (staged n))) → is_dir_node (get t (staged n)) ≡ false
    by_node None e stands = ap is_dir_node e
    by_node (Some node) e stands = ap is_dir_node e ∙ early_no_dir n node (only n node e)

-- what is put aside, as a list
record Aside (t : FileTree) (names : List (List ℕ)) : Type 0 where
  pub list : List Held
  pub is : held_items list ≡ items_in t names

aside : (t : FileTree) → HoldsOnly t (IsHeld t) → (names : List (List ℕ)) → AllByRecursion (IsItem t (λ name. ⊥)) (items_in t names) → Aside t names
aside t only [] each = record { list = []; is = refl }
aside t only (n ∷ names) each = by_node (get t (staged n)) refl (each.0).1 (aside t only names each.1)
  where
    by_node : (o : Option Node) → get t (staged n) ≡ o → IsTrue (is_some (get t (staged n))) → Aside t names → Aside t (n ∷ names)
    by_node None e stands more = absurd (let k : true ≡ false = sym stands ∙ ap is_some e in cc)
    by_node (Some node) e stands more =
        let h = only n node e in
        record {
          list = record { number = h.number; is_dir = is_dir_node (get t (staged n)) } ∷ more.list;
          is = ap (λ x. (x, is_dir_node (get t (staged n))) ∷ held_items more.list) (sym h.named) ∙ ap (λ xs. (n, is_dir_node (get t (staged n))) ∷ xs) more.is;
        }

pub cleans_aside : (t : FileTree) → HoldsOnly t (IsHeld t) → (hs : List Held) × Cleans hs t
cleans_aside t only =
    let a = aside t only (names_in t staging) (names_read t).each in
    (a.list, held_suffice t only a.list (subst (AreRead t (λ name. ⊥)) (sym a.is) (names_read t)))

module _ (Text : List ℕ → Type 0) (steps : List Step) (are : AreJournals Text steps) (old new : FileTree) (fresh : List Node) (began now : History) (tree : IsTree old) (absent : IsAbsent old staging) (few : length fresh ≤ 2 ^ 32)
    (moments : LeavesOnly began now (IsInterruptedBy Text steps old new fresh)) (sound : IsSound now) where
  abbrev P : FileTree → Type 0
  P = IsInterruptedBy Text steps old new fresh

  abbrev t : FileTree
  t = current_tree now

  abbrev Recovers : FileTree → Type 0
  Recovers target = (changes : List Change) × LeadsSafely P target began now changes

  abbrev synced : History
  synced = Then now call.Sync

  synced_moments : P t → LeavesOnly began synced P
  synced_moments r = goes_on-sync began now P moments r

  recover_nothing : P t → Recovers t
  recover_nothing r = (call.Sync ∷ [], leads_safely P t began now (call.Sync ∷ []) (moments, tt, synced_moments r) (refl, durable-sync now))

  -- the names and the directory
  module _ (dir : IsDir t staging) (only : HoldsOnly t IsEarly) (which : (rest t ≡ old) ⊎ (rest t ≡ new)) (r : P t) where
    abbrev names : List (List ℕ)
    names = names_in t staging

    is_row : (u : FileTree) → IsStaging (rest t) u → P u
    is_row u (inl none) = nothing_staged none.0 (⊎_elim (λ e. inl (none.1 ∙ e)) (λ e. inr (none.1 ∙ e)) which)
    is_row u (inr f) = no_journal f.dir f.only (⊎_elim (λ e. inl (f.is ∙ e)) (λ e. inr (f.is ∙ e)) which)

    pending : Pending synced (IsStaging (rest t))
    pending = pending-durable synced (IsStaging (rest t)) (durable-sync now) (sound_then call.Sync now sound tt) (inr record { dir = dir; only = only; is = refl })

    early_read : AreRead t (λ name. ⊥) (files names)
    early_read = subst (AreRead t (λ name. ⊥)) (files_are t only names (names_read t).each) (names_read t)

    recover_early : Recovers (rest t)
    recover_early =
        let can = early_suffice t dir only names early_read in (
          call.Sync ∷ (unstage_calls names ++ call.Sync ∷ []),
          leads_safely P (rest t) began now (call.Sync ∷ (unstage_calls names ++ call.Sync ∷ []))
              (moments, tt, safe_unstage (rest t) names began synced P is_row (synced_moments r) pending can)
              (done_unstage (rest t) names began synced P is_row (synced_moments r) pending can),
        )

  held_of : Leads steps old new fresh → (hs : List Held) × Cleans hs (at_place steps old fresh (length steps))
  held_of leads = cleans_aside (at_place steps old fresh (length steps)) (subst (λ l. HoldsOnly (after l (start old fresh)) (IsHeld (after l (start old fresh)))) (sym (take-length steps)) (by_places steps old new fresh leads).ends.only)

  cleans_start : Leads steps old new fresh → CleansItems (fresh_items 0 (fresh_for fresh)) (start old fresh)
  cleans_start leads = fresh_entries_of old fresh (fresh_for fresh) (length-fresh_for fresh) tree absent (no_dirs_in fresh 0 (insert old staging (Dir 0o700)) (omega arith) ((by_places steps old new fresh leads).holds 0).only) few

  abbrev others : List ℕ → Items
  others journal = items_in t (filter (λ name. not (bytes_eq journal name)) (names_in t staging))

  pub recover_from : (way : Bool) (r : P t) → Recovers (ending way r)
  recover_from way (nothing_staged none which) = recover_nothing (nothing_staged none which)
  recover_from way (no_journal dir only which) = recover_early dir only which (no_journal dir only which)
  recover_from false (forward leads m u le some s) = (_, go_forward Text steps are old new fresh (held_of leads).0 began now leads (held_of leads).1 record { m = m; u = u; le = le; comes = some; stands = s; moments = moments; sound = sound })
  recover_from true (forward leads m u le some s) = (_, (halts_go_back Text steps are old new fresh (fresh_for fresh) began now leads tree absent (cleans_start leads) record { m = m; u = u; le = le; comes = some; stands = s; moments = moments; sound = sound }).1)
  recover_from way (back leads k m u le cut some s) = (_, turned_go_back Text steps are old new fresh (fresh_for fresh) began now leads tree absent (cleans_start leads) record { k = k; m = m; u = u; le = le; cut = cut; comes = some; stands = s; moments = moments; sound = sound })
  recover_from way (behind_seal leads dir journal only is) = (
    _,
    seals_go_on Text steps are old new fresh began now leads record { dir = dir; journal = journal; only = only; is = is; moments = moments; sound = sound } (others sealed)
        (sealed_suffice t (length steps) only (others sealed) (others_read t sealed)),
  )
  recover_from way (all_undone leads dir journal only is) = (
    _,
    undone_go_on Text steps are old new fresh began now leads record { dir = dir; journal = journal; only = only; is = is; moments = moments; sound = sound } (others undone)
        (undone_suffice t only (others undone) (others_read t undone)),
  )
