-- The seal and the cleaning, where all steps are done.
use Rattle.std.proofs.Common.{◌≡◌, ◌⊎◌, inl, inr, ⊎_elim, ap, is_some, ℕ, List, [], ◌∷◌, ◌++◌, length, take, refl, sym, ◌∙◌, subst, arith}
use Rattle.tree_core.specs.declared.node.Node.{Node}
use Rattle.tree_core.specs.declared.node.Change.TheVariants as call
use Rattle.tree_core.specs.FileTree.{FileTree, IsTree, Stands, CanDo, renamed}
use Rattle.tree_core.specs.History.{History, Then, IsSound, current_tree, IsDurable, LeavesOnly}
use Rattle.tree_core.specs.Runs.{then_all, FailedIn}
use Rattle.tree_core.specs.declared.node.CallName.{CallName}
use Rattle.commit_states.specs.Stops.{Halted}
use Rattle.commit_states.proofs.HaltLemmas.{split_failed}
use Rattle.commit_states.proofs.PlaceLemmas.{closed_before, closed_behind, Behind, behind_sealed, behind_last}
use Rattle.step_trees.specs.Groups.{groups, to_next_cut}
use Rattle.step_trees.proofs.ChoiceLemmas.{none_done}
use Rattle.tree_core.proofs.TreeLemmas.{absent_not}
use Rattle.tree_core.proofs.Moments.{durable-sync, Pending, pending-durable}
use Rattle.tree_core.proofs.Runs.{IsSafe, IsClosed, closed_synced, safe_append, safe_all, safe_can, sound_all, single_synced, then_all-append}
use Rattle.commit_states.proofs.CloseLemmas.{can_seal, sealed_clearing, Clearing, Cleared, clear_all, closed_last, all_gone}
use Rattle.commit_states.proofs.LoopLemmas.{Ready, forward_at}
use Rattle.commit_states.proofs.SealLemmas.{IsSealed, IsLastSealed, LastSealed, last_marker, own-last_marker, sealed_plan, plan-last_marker, sealed-last_marker, less_held, carry_held, held_others, sealed_gives, last_gives}
use Rattle.commit_states.specs.Calls.{seal_calls, Cleans, held_items, removals, last_calls, cleaning_calls}
use Rattle.commit_states.specs.Interrupted.{StandsAfter, IsInterruptedBy}
use Rattle.commit_states.specs.declared.held.Held.{Held}
use Rattle.commit_steps.specs.Staging.{staged, plan, sealed, at_marker}
use Rattle.commit_steps.specs.declared.step.Step.{Step}
use Rattle.step_trees.proofs.LeadLemmas.{Led, ends_at}
use Rattle.step_trees.proofs.NameLemmas.{own-sealed}
use Rattle.step_trees.specs.Entries.{IsHeld}
use Rattle.step_trees.specs.Leads.{start}
use Rattle.step_trees.specs.Steps.{after}
use Rattle.commit_states.proofs.OwnNames.{sealed_names}

-- `done` stands with other names, or alone, or nothing but the directory, or not even that
abbrev pub EndsSealed : (List ℕ → Type 0) → List Step → FileTree → FileTree → Type 0
EndsSealed Text steps new t = IsSealed Text steps new t ⊎ (IsTree t × IsLastSealed Text steps new t)

module _ (Text : List ℕ → Type 0) (steps : List Step) (old new : FileTree) (nodes : List Node) (leads : Led steps old new nodes) (hs : List Held) (cleans : Cleans hs (after (take (length steps) steps) (start old nodes)))
    (P : FileTree → Type 0) (at_plan : (t : FileTree) → StandsAfter Text steps old nodes (at_marker (length steps)) (length steps) t → P t)
    (at_sealed : (t : FileTree) → IsSealed Text steps new t → P t) (at_last : (t : FileTree) → IsLastSealed Text steps new t → P t)
    (o h2 : History) (moments : LeavesOnly o h2 P) (durable : IsDurable h2) (sound : IsSound h2) (stands2 : StandsAfter Text steps old nodes (at_marker (length steps)) (length steps) (current_tree h2)) where
  abbrev h3 : History
  h3 = then_all h2 seal_calls

  abbrev h4 : History
  h4 = then_all h3 (removals hs (length steps) ++ call.Sync ∷ [])

  abbrev h5 : History
  h5 = then_all h4 (last_calls ++ call.Sync ∷ [])

  can3 : CanDo (call.Rename (staged plan) (staged sealed)) (current_tree h2)
  can3 = can_seal sealed (last_marker steps) own-sealed (own-last_marker steps) sealed_plan (plan-last_marker steps) (sealed-last_marker steps) Text steps new IsHeld less_held carry_held old new nodes leads sealed_names (length steps) (ends_at steps old new nodes leads).is (ends_at steps old new nodes leads).only (current_tree h2) sound.tree stands2

  abbrev u : FileTree
  u = renamed (current_tree h2) (staged plan) (staged sealed)

  abbrev a : FileTree
  a = after (take (length steps) steps) (start old nodes)

  pub clearing : Clearing sealed (last_marker steps) own-sealed (own-last_marker steps) sealed_plan (plan-last_marker steps) (sealed-last_marker steps) Text steps new IsHeld less_held a u (held_items hs)
  clearing = sealed_clearing sealed (last_marker steps) own-sealed (own-last_marker steps) sealed_plan (plan-last_marker steps) (sealed-last_marker steps) Text steps new IsHeld less_held carry_held old new nodes leads sealed_names (length steps) (ends_at steps old new nodes leads).is (ends_at steps old new nodes leads).only (current_tree h2) sound.tree stands2 a (held_items hs) refl cleans

  safe3 : IsSafe o P h2 seal_calls
  safe3 = single_synced o P h2 (call.Rename (staged plan) (staged sealed)) refl refl durable moments can3
      (at_plan (current_tree h2) stands2) (at_sealed u clearing.row)

  sound3 : IsSound h3
  sound3 = sound_all h2 seal_calls sound (safe_can o P h2 seal_calls safe3)

  cleared : Cleared sealed (last_marker steps) own-sealed (own-last_marker steps) sealed_plan (plan-last_marker steps) (sealed-last_marker steps) Text steps new IsHeld less_held h3 (held_items hs)
  cleared = clear_all sealed (last_marker steps) own-sealed (own-last_marker steps) sealed_plan (plan-last_marker steps) (sealed-last_marker steps) Text steps new IsHeld less_held (held_items hs) h3 a (held_others Text steps new hs) clearing

  pending3 : Pending h3 (IsSealed Text steps new)
  pending3 = pending-durable h3 (IsSealed Text steps new) (durable-sync (Then h2 (call.Rename (staged plan) (staged sealed)))) sound3 clearing.row

  safe4 : IsSafe o P h3 (removals hs (length steps) ++ call.Sync ∷ [])
  safe4 = closed_synced o P (IsSealed Text steps new) h3 (removals hs (length steps)) at_sealed (safe_all o P h2 seal_calls safe3) pending3 cleared.closed

  is_h4 : h4 ≡ Then (then_all h3 (removals hs (length steps))) call.Sync
  is_h4 = then_all-append h3 (removals hs (length steps)) (call.Sync ∷ [])

  sound4 : IsSound h4
  sound4 = sound_all h3 (removals hs (length steps) ++ call.Sync ∷ []) sound3 (safe_can o P h3 (removals hs (length steps) ++ call.Sync ∷ []) safe4)

  last : LastSealed Text steps new (current_tree h4)
  last = subst (λ (h : History). LastSealed Text steps new (current_tree h)) (sym is_h4) cleared.last

  durable4 : IsDurable h4
  durable4 = subst IsDurable (sym is_h4) (durable-sync (then_all h3 (removals hs (length steps))))

  pending4 : Pending h4 (IsLastSealed Text steps new)
  pending4 = pending-durable h4 (IsLastSealed Text steps new) durable4 sound4 (inl last)

  closed4 : IsClosed (IsLastSealed Text steps new) h4 last_calls
  closed4 = closed_last sealed (last_marker steps) own-sealed (own-last_marker steps) sealed_plan (plan-last_marker steps) (sealed-last_marker steps) Text steps new IsHeld less_held h4 last sound4

  safe5 : IsSafe o P h4 (last_calls ++ call.Sync ∷ [])
  safe5 = closed_synced o P (IsLastSealed Text steps new) h4 last_calls at_last (safe_all o P h3 (removals hs (length steps) ++ call.Sync ∷ []) safe4)
      pending4 closed4

  safe_cleaning : IsSafe o P h3 (cleaning_calls hs (length steps))
  safe_cleaning = safe_append o P h3 (removals hs (length steps) ++ call.Sync ∷ []) (last_calls ++ call.Sync ∷ []) safe4 safe5

  pub safe_finish_as : IsSafe o P h2 (seal_calls ++ cleaning_calls hs (length steps))
  safe_finish_as = safe_append o P h2 seal_calls (cleaning_calls hs (length steps)) safe3 safe_cleaning

  pub before_cleaning : (x : History) (before : FileTree) (first : CallName) → FailedIn (cleaning_calls hs (length steps)) h3 x before first → Behind new before
  before_cleaning x before first failed = ⊎_elim
      (λ one. let p = closed_before (IsSealed Text steps new) h3 x before first (removals hs (length steps)) pending3 cleared.closed one in
      subst (Behind new) (sym p.2) (behind_sealed Text steps new (current_tree p.0) (p.1).now))
      (λ two. let p = closed_before (IsLastSealed Text steps new) h4 x before first last_calls pending4 closed4 two in
      subst (Behind new) (sym p.2) (behind_last Text steps new (current_tree p.0) (p.1).sound.tree (p.1).now))
      (split_failed (removals hs (length steps) ++ call.Sync ∷ []) (last_calls ++ call.Sync ∷ []) h3 x before first failed)

  -- the tree that reads where a call behind the seal failed, or the seal itself and `done` stands
  cleaning_ends : (x : History) (before : FileTree) (first : CallName) → FailedIn (cleaning_calls hs (length steps)) h3 x before first → EndsSealed Text steps new (current_tree x)
  cleaning_ends x before first failed = ⊎_elim
      (λ one. let p = closed_behind (IsSealed Text steps new) h3 x before first (removals hs (length steps)) pending3 cleared.closed one in inl p.now)
      (λ two. let p = closed_behind (IsLastSealed Text steps new) h4 x before first last_calls pending4 closed4 two in inr (p.sound.tree, p.now))
      (split_failed (removals hs (length steps) ++ call.Sync ∷ []) (last_calls ++ call.Sync ∷ []) h3 x before first failed)

  at_u : (x y : History) → x ≡ y → current_tree y ≡ u → EndsSealed Text steps new (current_tree x)
  at_u x y is same = inl (subst (IsSealed Text steps new) (sym (ap current_tree is ∙ same)) clearing.row)

  pub unclean_ends_as : (x : History) (before : FileTree) (first : CallName) → FailedIn (call.Sync ∷ cleaning_calls hs (length steps)) (Then h2 (call.Rename (staged plan) (staged sealed))) x before first
      → EndsSealed Text steps new (current_tree x)
  unclean_ends_as x before first (inl f) = ⊎_elim (λ is. at_u x _ is refl) (λ is. at_u x _ is refl) f.fate
  unclean_ends_as x before first (inr more) = cleaning_ends x before first more

  pub seal_ends_as : (x : History) (before : FileTree) (first : CallName) → FailedIn seal_calls h2 x before first → Stands (current_tree x) (staged sealed) → EndsSealed Text steps new (current_tree x)
  seal_ends_as x before first (inl f) stands = ⊎_elim
      (λ is. absurd (absent_not _ can3.absent (subst (λ (h : History). Stands (current_tree h) (staged sealed)) is stands)))
      (λ is. at_u x _ is refl) f.fate
  seal_ends_as x before first (inr (inl f)) stands = ⊎_elim (λ is. at_u x _ is refl) (λ is. at_u x _ is refl) f.fate
  seal_ends_as x before first (inr (inr nothing)) stands = absurd nothing

  is_finish : then_all h2 (seal_calls ++ cleaning_calls hs (length steps)) ≡ h5
  is_finish = then_all-append h2 seal_calls (cleaning_calls hs (length steps)) ∙ then_all-append h3 (removals hs (length steps) ++ call.Sync ∷ []) (last_calls ++ call.Sync ∷ [])

  -- Behind it the edited tree stands, nothing is pending, and nothing of the commit's own-last_marker is left.
  pub done_finish_as : (current_tree (then_all h2 (seal_calls ++ cleaning_calls hs (length steps))) ≡ new) × IsDurable (then_all h2 (seal_calls ++ cleaning_calls hs (length steps)))
  done_finish_as = subst (λ (h : History). (current_tree h ≡ new) × IsDurable h) (sym is_finish) ((all_gone sealed (last_marker steps) own-sealed (own-last_marker steps) sealed_plan (plan-last_marker steps) (sealed-last_marker steps) Text steps new IsHeld less_held h4 last sound4).1, durable-sync (then_all h4 last_calls))

-- The same as an interrupted commit's.
module _ (Text : List ℕ → Type 0) (steps : List Step) (old new : FileTree) (nodes : List Node) (leads : Led steps old new nodes) (hs : List Held) (cleans : Cleans hs (after (take (length steps) steps) (start old nodes)))
    (o h2 : History) (r : Ready Text steps old new nodes o h2 (length steps)) where
  pub safe_finish : IsSafe o (IsInterruptedBy Text steps old new nodes) h2 (seal_calls ++ cleaning_calls hs (length steps))
  safe_finish = safe_finish_as Text steps old new nodes leads hs cleans (IsInterruptedBy Text steps old new nodes) (λ t s. forward_at Text steps old new nodes leads (length steps) t (omega arith) s)
      (sealed_gives Text steps old new nodes leads) (last_gives Text steps old new nodes leads) o h2 r.moments r.durable r.sound r.stands

  pub done_finish : (current_tree (then_all h2 (seal_calls ++ cleaning_calls hs (length steps))) ≡ new) × IsDurable (then_all h2 (seal_calls ++ cleaning_calls hs (length steps)))
  done_finish = done_finish_as Text steps old new nodes leads hs cleans (IsInterruptedBy Text steps old new nodes) (λ t s. forward_at Text steps old new nodes leads (length steps) t (omega arith) s)
      (sealed_gives Text steps old new nodes leads) (last_gives Text steps old new nodes leads) o h2 r.moments r.durable r.sound r.stands

  -- behind its first call `done` stands
  pub sealed_stands : Stands (renamed (current_tree h2) (staged plan) (staged sealed)) (staged sealed)
  sealed_stands = ap is_some (clearing Text steps old new nodes leads hs cleans (IsInterruptedBy Text steps old new nodes) (λ t s. forward_at Text steps old new nodes leads (length steps) t (omega arith) s)
      (sealed_gives Text steps old new nodes leads) (last_gives Text steps old new nodes leads) o h2 r.moments r.durable r.sound r.stands).row.journal.stands

  -- The seal failed: `done` stands, or all steps are done and `plan` stands.
  pub seal_halted : (last : History) (before : FileTree) (first : CallName) → FailedIn seal_calls h2 last before first
      → Stands (current_tree last) (staged sealed) ⊎ ((h : Halted Text steps old new nodes o last) × (h.m ≡ length steps))
  seal_halted last before first (inl f) = ⊎_elim
      (λ is. inr (subst (λ (x : History). (h : Halted Text steps old new nodes o x) × (h.m ≡ length steps)) (sym is) (
        record {
          m = length steps;
          u = after (take (length steps) steps) (start old nodes);
          le = omega arith;
          comes = none_done (to_next_cut (length steps) (groups steps)) (after (take (length steps) steps) (start old nodes));
          stands = r.stands;
          moments = r.moments;
          sound = r.sound;
        },
        refl,
      )))
      (λ is. inl (subst (λ (x : History). Stands (current_tree x) (staged sealed)) (sym is) sealed_stands)) f.fate
  seal_halted last before first (inr (inl f)) = ⊎_elim
      (λ is. inl (subst (λ (x : History). Stands (current_tree x) (staged sealed)) (sym is) sealed_stands))
      (λ is. inl (subst (λ (x : History). Stands (current_tree x) (staged sealed)) (sym is) sealed_stands)) f.fate
  seal_halted last before first (inr (inr nothing)) = absurd nothing

  pub before_end : (last : History) (before : FileTree) (first : CallName) → FailedIn (cleaning_calls hs (length steps)) (then_all h2 seal_calls) last before first → Behind new before
  before_end = before_cleaning Text steps old new nodes leads hs cleans (IsInterruptedBy Text steps old new nodes) (λ t s. forward_at Text steps old new nodes leads (length steps) t (omega arith) s)
      (sealed_gives Text steps old new nodes leads) (last_gives Text steps old new nodes leads) o h2 r.moments r.durable r.sound r.stands

  pub unclean_ends : (last : History) (before : FileTree) (first : CallName) → FailedIn (call.Sync ∷ cleaning_calls hs (length steps)) (Then h2 (call.Rename (staged plan) (staged sealed))) last before first
      → EndsSealed Text steps new (current_tree last)
  unclean_ends = unclean_ends_as Text steps old new nodes leads hs cleans (IsInterruptedBy Text steps old new nodes) (λ t s. forward_at Text steps old new nodes leads (length steps) t (omega arith) s)
      (sealed_gives Text steps old new nodes leads) (last_gives Text steps old new nodes leads) o h2 r.moments r.durable r.sound r.stands

  pub seal_ends : (last : History) (before : FileTree) (first : CallName) → FailedIn seal_calls h2 last before first → Stands (current_tree last) (staged sealed) → EndsSealed Text steps new (current_tree last)
  seal_ends = seal_ends_as Text steps old new nodes leads hs cleans (IsInterruptedBy Text steps old new nodes) (λ t s. forward_at Text steps old new nodes leads (length steps) t (omega arith) s)
      (sealed_gives Text steps old new nodes leads) (last_gives Text steps old new nodes leads) o h2 r.moments r.durable r.sound r.stands
