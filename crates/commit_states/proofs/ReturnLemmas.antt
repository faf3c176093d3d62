-- A way back as a whole, where the journal stands.
use Rattle.std.proofs.Common.{◌≡◌, ◌≢◌, ◌⊎◌, ap, true, ◌==◌, inl, inr, ⊎_elim, ℕ, ◌+◌, ◌≤◌, ◌<◌, ◌^◌, List, [], ◌∷◌, ◌++◌, length, take, refl, sym, ◌∙◌, subst, arith}
use Rattle.std.proofs.lemmas.Bool.{cases_Bool, eqb-true, eq-eqb}
use Rattle.tree_core.specs.declared.node.Change.{Change}
use Rattle.tree_core.specs.declared.changes.Fresh.{Fresh}
use Rattle.tree_core.specs.declared.node.Node.{Node}
use Rattle.tree_core.specs.declared.node.Change.TheVariants as call
use Rattle.tree_core.specs.FileTree.{FileTree, IsTree, IsAbsent, CanDo, renamed}
use Rattle.tree_core.specs.History.{History, Then, IsSound, current_tree, IsDurable, LeavesOnly}
use Rattle.tree_core.specs.Runs.{then_all}
use Rattle.tree_core.proofs.Moments.{durable-sync, Pending, pending-durable, goes_on-sync}
use Rattle.tree_core.proofs.Sound.{sound_then}
use Rattle.tree_core.proofs.Runs.{IsSafe, closed_synced, safe_append, safe_all, safe_can, sound_all, single_synced, then_all-append}
use Rattle.commit_states.proofs.BackLemmas.{Returning, back_at, Home, home, safe_turn, turned, safe_turn_some, some_turned}
use Rattle.commit_states.proofs.CloseLemmas.{can_seal, sealed_clearing, Clearing, Cleared, clear_all, closed_last, all_gone}
use Rattle.commit_states.proofs.CommitLemmas.{edited_by-none}
use Rattle.commit_states.proofs.SealLemmas.{IsUndone, IsLastUndone, LastUndone, back0, undone_plan, plan_back0, undone_back0, FreshIn, less_fresh, carry_fresh, fresh_others, undone_gives, old_gives, start_only}
use Rattle.commit_states.specs.Calls.{turn_place, CleansItems, fresh_items, removals_of, last_of, turn_calls, revoke_calls, clearing_calls, home_calls, end_calls}
use Rattle.commit_states.specs.Interrupted.{StandsAs, StandsAfter, IsInterruptedBy, back, forward}
use Rattle.commit_steps.specs.Staging.{staging, staged, plan, undone, at_marker, back_marker}
use Rattle.commit_steps.specs.declared.step.Step.{Step}
use Rattle.step_trees.proofs.ChoiceLemmas.{taken_is}
use Rattle.step_trees.proofs.NameLemmas.{own-undone, own-back}
use Rattle.step_trees.proofs.PlaceLemmas.{Inside, inside_at, cut_of, end_behind}
use Rattle.step_trees.specs.Entries.{rest}
use Rattle.step_trees.specs.Groups.{groups, to_next_cut, from_last_cut, ComesBySome, taken_of}
use Rattle.step_trees.specs.Leads.{start}
use Rattle.step_trees.specs.Steps.{after}
use Rattle.step_trees.proofs.LeadLemmas.{Led}
use Rattle.commit_states.proofs.OwnNames.{undone_names}

module _ (Text : List ℕ → Type 0) (steps : List Step) (old new : FileTree) (nodes : List Node) (leads : Led steps old new nodes) (few : length steps < 2 ^ 32) (tree : IsTree old) (absent : IsAbsent old staging)
    (fs : List Fresh) (cleans : CleansItems (fresh_items 0 fs) (start old nodes)) (o : History) where
  abbrev P : FileTree → Type 0
  P = IsInterruptedBy Text steps old new nodes

  rest_start : rest (start old nodes) ≡ old
  rest_start = edited_by-none old nodes tree absent

  -- ---- from `back-0` on

  module _ (h2 : History) (r : Returning Text steps old new nodes o h2 0) where
    abbrev h3 : History
    h3 = then_all h2 revoke_calls

    abbrev h4 : History
    h4 = then_all h3 (removals_of (fresh_items 0 fs) back0 ++ call.Sync ∷ [])

    can3 : CanDo (call.Rename (staged plan) (staged undone)) (current_tree h2)
    can3 = can_seal undone back0 own-undone (own-back 0) undone_plan plan_back0 undone_back0 Text steps old FreshIn less_fresh carry_fresh old new nodes leads undone_names 0 rest_start (start_only Text steps old new nodes leads tree absent) (current_tree h2) r.sound.tree r.stands

    abbrev u : FileTree
    u = renamed (current_tree h2) (staged plan) (staged undone)

    clearing : Clearing undone back0 own-undone (own-back 0) undone_plan plan_back0 undone_back0 Text steps old FreshIn less_fresh (start old nodes) u (fresh_items 0 fs)
    clearing = sealed_clearing undone back0 own-undone (own-back 0) undone_plan plan_back0 undone_back0 Text steps old FreshIn less_fresh carry_fresh old new nodes leads undone_names 0 rest_start (start_only Text steps old new nodes leads tree absent)
        (current_tree h2) r.sound.tree r.stands (start old nodes) (fresh_items 0 fs) refl cleans

    safe3 : IsSafe o P h2 revoke_calls
    safe3 = single_synced o P h2 (call.Rename (staged plan) (staged undone)) refl refl r.durable r.moments can3 (back_at Text steps old new nodes leads 0 (current_tree h2) (omega arith) r.stands) (undone_gives Text steps old new nodes leads u clearing.row)

    sound3 : IsSound h3
    sound3 = sound_all h2 revoke_calls r.sound (safe_can o P h2 revoke_calls safe3)

    cleared : Cleared undone back0 own-undone (own-back 0) undone_plan plan_back0 undone_back0 Text steps old FreshIn less_fresh h3 (fresh_items 0 fs)
    cleared = clear_all undone back0 own-undone (own-back 0) undone_plan plan_back0 undone_back0 Text steps old FreshIn less_fresh (fresh_items 0 fs) h3 (start old nodes) (fresh_others Text steps old fs 0) clearing

    pending3 : Pending h3 (IsUndone Text steps old)
    pending3 = pending-durable h3 (IsUndone Text steps old) (durable-sync (Then h2 (call.Rename (staged plan) (staged undone)))) sound3 clearing.row

    safe4 : IsSafe o P h3 (removals_of (fresh_items 0 fs) back0 ++ call.Sync ∷ [])
    safe4 = closed_synced o P (IsUndone Text steps old) h3 (removals_of (fresh_items 0 fs) back0) (undone_gives Text steps old new nodes leads) (safe_all o P h2 revoke_calls safe3) pending3 cleared.closed

    is_h4 : h4 ≡ Then (then_all h3 (removals_of (fresh_items 0 fs) back0)) call.Sync
    is_h4 = then_all-append h3 (removals_of (fresh_items 0 fs) back0) (call.Sync ∷ [])

    sound4 : IsSound h4
    sound4 = sound_all h3 (removals_of (fresh_items 0 fs) back0 ++ call.Sync ∷ []) sound3 (safe_can o P h3 (removals_of (fresh_items 0 fs) back0 ++ call.Sync ∷ []) safe4)

    last : LastUndone Text steps old (current_tree h4)
    last = subst (λ (h : History). LastUndone Text steps old (current_tree h)) (sym is_h4) cleared.last

    safe5 : IsSafe o P h4 (last_of undone ++ call.Sync ∷ [])
    safe5 = closed_synced o P (IsLastUndone Text steps old) h4 (last_of undone) (old_gives Text steps old new nodes leads)
        (safe_all o P h3 (removals_of (fresh_items 0 fs) back0 ++ call.Sync ∷ []) safe4)
        (pending-durable h4 (IsLastUndone Text steps old) (subst IsDurable (sym is_h4) (durable-sync (then_all h3 (removals_of (fresh_items 0 fs) back0)))) sound4 (inl last))
        (closed_last undone back0 own-undone (own-back 0) undone_plan plan_back0 undone_back0 Text steps old FreshIn less_fresh h4 last sound4)

    pub safe_end : IsSafe o P h2 (revoke_calls ++ clearing_calls fs)
    safe_end = safe_append o P h2 revoke_calls (clearing_calls fs) safe3
        (safe_append o P h3 (removals_of (fresh_items 0 fs) back0 ++ call.Sync ∷ []) (last_of undone ++ call.Sync ∷ []) safe4 safe5)

    is_end : then_all h2 (revoke_calls ++ clearing_calls fs) ≡ then_all h4 (last_of undone ++ call.Sync ∷ [])
    is_end = then_all-append h2 revoke_calls (clearing_calls fs) ∙ then_all-append h3 (removals_of (fresh_items 0 fs) back0 ++ call.Sync ∷ []) (last_of undone ++ call.Sync ∷ [])

    pub old_again : (current_tree (then_all h2 (revoke_calls ++ clearing_calls fs)) ≡ old) × IsDurable (then_all h2 (revoke_calls ++ clearing_calls fs))
    old_again = subst (λ (h : History). (current_tree h ≡ old) × IsDurable h) (sym is_end)
        ((all_gone undone back0 own-undone (own-back 0) undone_plan plan_back0 undone_back0 Text steps old FreshIn less_fresh h4 last sound4).1, durable-sync (then_all h4 (last_of undone)))

  abbrev place : ℕ → FileTree
  place k = after (take k steps) (start old nodes)

  -- ---- from `back-m` on, where any of the steps from the last cut to m are done

  module _ (now : History) (k m : ℕ) (u : FileTree) (le : m ≤ length steps) (cut : m ≡ k + length (from_last_cut m (groups steps))) (comes : ComesBySome (from_last_cut m (groups steps)) (place k) u)
      (moments : LeavesOnly o now P) (durable : IsDurable now) (sound : IsSound now) (s : StandsAs Text (back_marker m) u (current_tree now)) where
    abbrev way : List Change
    way = home_calls steps m (taken_of (from_last_cut m (groups steps)) (place k) u comes)

    came : Home Text steps old new nodes leads few o now k m u le cut comes moments durable sound s
    came = home Text steps old new nodes leads few o now k m u le cut comes moments durable sound s

    pub safe_way : IsSafe o P now (way ++ end_calls fs)
    safe_way = safe_append o P now way (end_calls fs) came.safe (safe_end (then_all now way) came.returning)

    pub done_way : (current_tree (then_all now (way ++ end_calls fs)) ≡ old) × IsDurable (then_all now (way ++ end_calls fs))
    done_way = subst (λ (h : History). (current_tree h ≡ old) × IsDurable h) (sym (then_all-append now way (end_calls fs))) (old_again (then_all now way) came.returning)

  -- The whole of it, behind a sync.
  module _ (now : History) (moments : LeavesOnly o now P) (sound : IsSound now) (k m : ℕ) (u : FileTree) (le : m ≤ length steps) (cut : m ≡ k + length (from_last_cut m (groups steps)))
      (comes : ComesBySome (from_last_cut m (groups steps)) (place k) u) (s : StandsAs Text (back_marker m) u (current_tree now)) where
    abbrev synced : History
    synced = Then now call.Sync

    synced_moments : LeavesOnly o synced P
    synced_moments = goes_on-sync o now P moments (back leads.leads k m u le cut comes s)

    abbrev pub way_back : List Change
    way_back = home_calls steps m (taken_of (from_last_cut m (groups steps)) (place k) u comes) ++ end_calls fs

    -- A crash at any moment of it leaves an interrupted tree.
    pub safe_back : IsSafe o P now (call.Sync ∷ way_back)
    safe_back = (moments, tt, safe_way synced k m u le cut comes synced_moments (durable-sync now) (sound_then call.Sync now sound tt) s)

    -- Behind it the old tree stands, and nothing is pending.
    pub done_back : (current_tree (then_all synced way_back) ≡ old) × IsDurable (then_all synced way_back)
    done_back = done_way synced k m u le cut comes synced_moments (durable-sync now) (sound_then call.Sync now sound tt) s

  -- ---- from `at-m` on, where any of the steps from m to the next cut are done

  -- the turn of the marker, and what stands behind it, where `taken` of the steps from m to the next cut were done
  pub record Turned (now : History) (m : ℕ) (u : FileTree) (taken : List Step) : Type 0 where
    pub j : ℕ
    pub j_is : j ≡ turn_place steps m taken
    pub k : ℕ
    pub le : j ≤ length steps
    pub cut : j ≡ k + length (from_last_cut j (groups steps))
    pub comes : ComesBySome (from_last_cut j (groups steps)) (place k) u
    pub safe : IsSafe o P now (turn_calls m j)
    pub stands : StandsAs Text (back_marker j) u (current_tree (then_all now (turn_calls m j)))

  module _ (now : History) (m : ℕ) (u : FileTree) (moments : LeavesOnly o now P) (durable : IsDurable now) (sound : IsSound now) (s : StandsAs Text (at_marker m) u (current_tree now)) where
    turned_none : (taken : List Step) → m ≤ length steps → u ≡ place m → m ≡ turn_place steps m taken → Turned now m u taken
    turned_none taken le u_is m_is =
        let c = cut_of steps old new nodes leads m le in
        let here : StandsAfter Text steps old nodes (at_marker m) m (current_tree now) = subst (λ v. StandsAs Text (at_marker m) v (current_tree now)) u_is s in
        record {
          j = m;
          j_is = m_is;
          k = c.k;
          le = le;
          cut = c.cut;
          comes = subst (ComesBySome (from_last_cut m (groups steps)) (place c.k)) (sym u_is) c.all;
          safe = safe_turn Text steps old new nodes leads few o now m moments durable sound le here;
          stands = subst (λ v. StandsAs Text (back_marker m) v (current_tree (then_all now (turn_calls m m)))) (sym u_is) (turned Text steps old new nodes leads few o now m moments durable sound le here);
        }

    turned_some : (x : Step) (xs : List Step) → Inside steps old new nodes leads m → ComesBySome (to_next_cut m (groups steps)) (place m) u → Turned now m u (x ∷ xs)
    turned_some x xs i comes =
        let some : ComesBySome i.g (place m) u = subst (λ l. ComesBySome l (place m) u) i.stretch.is comes in
        record {
          j = i.from + length i.whole;
          j_is = sym i.next ∙ ap (λ l. m + length l) (sym i.stretch.is);
          k = i.from;
          le = i.back.within;
          cut = sym (ap (λ l. i.from + length l) i.back.is);
          comes = subst (λ l. ComesBySome l (place i.from) u) (sym i.back.is) (i.widen u some);
          safe = safe_turn_some Text steps old new nodes leads few o now m moments durable sound i u some s;
          stands = some_turned Text steps old new nodes leads few o now m moments durable sound i u some s;
        }

    -- where none was done the marker stays at m; else it goes to the next cut
    pub turn : m ≤ length steps → (comes : ComesBySome (to_next_cut m (groups steps)) (place m) u) → Turned now m u (taken_of (to_next_cut m (groups steps)) (place m) u comes)
    turn le comes = by_taken (taken_of (to_next_cut m (groups steps)) (place m) u comes) refl
      where
        at_end : (x : Step) (xs : List Step) → m ≡ length steps → Turned now m u (x ∷ xs)
        at_end x xs is =
            let none : to_next_cut m (groups steps) ≡ [] = ap (λ n. to_next_cut n (groups steps)) is ∙ end_behind steps old new nodes leads in
            let count : length (to_next_cut m (groups steps)) ≡ 0 = ap length none in
            turned_none (x ∷ xs) le (subst (λ l. ComesBySome l (place m) u) none comes) (omega arith)

        by_place : (x : Step) (xs : List Step) → (m ≡ length steps) ⊎ (m < length steps) → Turned now m u (x ∷ xs)
        by_place x xs (inl is) = at_end x xs is
        by_place x xs (inr lt) = turned_some x xs (inside_at steps old new nodes leads m lt) comes

        by_taken : (taken : List Step) → taken_of (to_next_cut m (groups steps)) (place m) u comes ≡ taken → Turned now m u taken
        by_taken [] is = turned_none [] le (taken_is (to_next_cut m (groups steps)) (place m) u comes ∙ ap (λ l. after l (place m)) is) refl
        by_taken (x ∷ xs) is = by_place x xs (le_cases m (length steps) le)
          where
            le_cases : (a b : ℕ) → a ≤ b → (a ≡ b) ⊎ (a < b)
            le_cases a b le = ⊎_elim (λ same. inl (eqb-true a b same)) (λ other. inr (let no : a ≢ b = (λ e. let t : (a == b) ≡ true = eq-eqb a b e in cc) in omega arith)) (cases_Bool (a == b))

    -- The whole way back.
    module _ (taken : List Step) (t : Turned now m u taken) where
      abbrev pub turned_history : History
      turned_history = then_all now (turn_calls m t.j)

      abbrev pub rest_calls : List Change
      rest_calls = home_calls steps t.j (taken_of (from_last_cut t.j (groups steps)) (place t.k) u t.comes) ++ end_calls fs

      sound_turned : IsSound turned_history
      sound_turned = sound_all now (turn_calls m t.j) sound (safe_can o P now (turn_calls m t.j) t.safe)

      durable_turned : IsDurable turned_history
      durable_turned = durable-sync (Then now (call.Rename (staged (at_marker m)) (staged (back_marker t.j))))

      -- A crash at any moment of it leaves an interrupted tree.
      pub safe_return : IsSafe o P now (turn_calls m t.j ++ rest_calls)
      safe_return = safe_append o P now (turn_calls m t.j) rest_calls t.safe (safe_way turned_history t.k t.j u t.le t.cut t.comes (safe_all o P now (turn_calls m t.j) t.safe) durable_turned sound_turned t.stands)

      -- Behind it the old tree stands, and nothing is pending.
      pub done_return : (current_tree (then_all now (turn_calls m t.j ++ rest_calls)) ≡ old) × IsDurable (then_all now (turn_calls m t.j ++ rest_calls))
      done_return = subst (λ (h : History). (current_tree h ≡ old) × IsDurable h) (sym (then_all-append now (turn_calls m t.j) rest_calls))
          (done_way turned_history t.k t.j u t.le t.cut t.comes (safe_all o P now (turn_calls m t.j) t.safe) durable_turned sound_turned t.stands)

  -- The whole of it, behind a sync.
  module _ (now : History) (moments : LeavesOnly o now P) (sound : IsSound now) (m : ℕ) (u : FileTree) (le : m ≤ length steps) (comes : ComesBySome (to_next_cut m (groups steps)) (place m) u)
      (s : StandsAs Text (at_marker m) u (current_tree now)) where
    abbrev at_synced : History
    at_synced = Then now call.Sync

    pub at_moments : LeavesOnly o at_synced P
    at_moments = goes_on-sync o now P moments (forward leads.leads m u le comes s)

    pub at_sound : IsSound at_synced
    at_sound = sound_then call.Sync now sound tt

    abbrev pub taken_at : List Step
    taken_at = taken_of (to_next_cut m (groups steps)) (place m) u comes

    pub at_turn : Turned at_synced m u taken_at
    at_turn = turn at_synced m u at_moments (durable-sync now) at_sound s le comes

    abbrev pub at_calls : List Change
    at_calls = turn_calls m at_turn.j ++ rest_calls at_synced m u at_moments (durable-sync now) at_sound s taken_at at_turn

    -- A crash at any moment of it leaves an interrupted tree.
    pub safe_back_at : IsSafe o P now (call.Sync ∷ at_calls)
    safe_back_at = (moments, tt, safe_return at_synced m u at_moments (durable-sync now) at_sound s taken_at at_turn)

    -- Behind it the old tree stands, and nothing is pending.
    pub done_back_at : (current_tree (then_all at_synced at_calls) ≡ old) × IsDurable (then_all at_synced at_calls)
    done_back_at = done_return at_synced m u at_moments (durable-sync now) at_sound s taken_at at_turn
