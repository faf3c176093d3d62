-- The way back of a commit whose journal stands, group by group.
use Rattle.std.proofs.Common.{◌≡◌, ◌≢◌, ◌⊎◌, inl, inr, ⊎_elim, ℕ, zero, suc, ◌+◌, ◌-◌, ◌==◌, ◌<◌, ◌≤◌, ◌^◌, false, List, [], ◌∷◌, ◌++◌, length, take, refl, sym, ◌∙◌, ap, subst, arith, length-append}
use Rattle.std.proofs.lemmas.Bool.{cond-true, cond-false, eq-eqb, ne_eqb}
use Rattle.tree_core.specs.declared.node.Node.{Node}
use Rattle.tree_core.specs.declared.node.Change.{Change}
use Rattle.tree_core.specs.declared.node.Change.TheVariants as call
use Rattle.tree_core.specs.FileTree.{FileTree, IsTree, CanDo}
use Rattle.tree_core.specs.History.{History, Then, IsSound, current_tree, IsDurable, LeavesOnly}
use Rattle.tree_core.specs.Runs.{then_all}
use Rattle.tree_core.proofs.Moments.{durable-sync, pending-durable, Pending}
use Rattle.tree_core.proofs.Runs.{IsSafe, safe_append, safe_all, safe_can, sound_all, closed_synced, closed_can, single_synced, then_all-append}
use Rattle.tree_core.proofs.Sound.{sound_then}
use Rattle.commit_states.proofs.StandLemmas.{can_mark, stands_marked}
use Rattle.commit_states.proofs.WithinLemmas.{based_comes, Amid, Undid, undo_all}
use Rattle.commit_states.specs.Calls.{undo_calls, unmarked_calls, back_calls, undo_from, turn_calls, home_calls}
use Rattle.commit_states.specs.Interrupted.{StandsAs, StandsAfter, IsInterruptedBy, forward, back}
use Rattle.commit_steps.specs.Staging.{staged, plan, at_marker, back_marker}
use Rattle.commit_steps.specs.declared.step.Step.{Step}
use Rattle.step_trees.proofs.ChoiceLemmas.{none_done, all_done, taken_all, taken_is, free_taken, of_taken}
use Rattle.step_trees.proofs.LeadLemmas.{Led, Based, entries_at, based_at}
use Rattle.step_trees.proofs.NameLemmas.{own-at, own-back, i-plan, i-at, i-back, differ, back_injects}
use Rattle.step_trees.proofs.PlaceLemmas.{from_last_cut-zero, Inside, Back, AllBack, Cut, cut_at, found_at}
use Rattle.step_trees.specs.Groups.{groups, joined, to_next_cut, from_last_cut, whole_before, ComesBySome, taken_of}
use Rattle.step_trees.specs.Leads.{start}
use Rattle.step_trees.specs.Steps.{after}
use Rattle.dired_text.specs.Paths.{AreNames}
use Rattle.commit_states.proofs.OwnNames.{back_names}

-- the moment with nothing pending at which `plan` and `back-j` stand and j steps are done
pub record Returning (Text : List ℕ → Type 0) (steps : List Step) (before new : FileTree) (fresh : List Node) (old now : History) (j : ℕ) : Type 0 where
  pub moments : LeavesOnly old now (IsInterruptedBy Text steps before new fresh)
  pub durable : IsDurable now
  pub sound : IsSound now
  pub stands : StandsAfter Text steps before fresh (back_marker j) j (current_tree now)

module _ (Text : List ℕ → Type 0) (steps : List Step) (before new : FileTree) (fresh : List Node) (leads : Led steps before new fresh) where
  abbrev at : ℕ → FileTree
  at k = after (take k steps) (start before fresh)

  -- some of the steps from the last cut to the marker's place
  row_back : (k : ℕ) (g : List Step) (v t : FileTree) → Back steps before new fresh leads k g → ComesBySome g (at k) v → StandsAs Text (back_marker (k + length g)) v t → IsInterruptedBy Text steps before new fresh t
  row_back k g v t h some stands = back leads.leads k (k + length g) v h.within (ap (λ (l : List Step). k + length l) (sym h.is)) (subst (λ l. ComesBySome l (at k) v) (sym h.is) some) stands

  -- all of them
  pub back_at : (m : ℕ) (t : FileTree) → m ≤ length steps → StandsAfter Text steps before fresh (back_marker m) m t → IsInterruptedBy Text steps before new fresh t
  back_at zero t le s =
      let is : from_last_cut 0 (groups steps) ≡ [] = from_last_cut-zero (groups steps) in
      let none : length (from_last_cut 0 (groups steps)) ≡ 0 = ap length is in
      back leads.leads 0 0 (at 0) le (omega arith) (subst (λ l. ComesBySome l (at 0) (at 0)) (sym is) refl) s
  back_at (suc m) t le s =
      let f = found_at steps before new fresh leads (suc m) (omega arith) le in
      let here : StandsAfter Text steps before fresh (back_marker (f.cut + length f.g)) (f.cut + length f.g) t = subst (λ n. StandsAfter Text steps before fresh (back_marker n) n t) f.m_is s in
      row_back f.cut f.g (at (f.cut + length f.g)) t f.back (subst (ComesBySome f.g (at f.cut)) (sym f.back.more) (all_done f.g (at f.cut))) here

module _ (Text : List ℕ → Type 0) (steps : List Step) (before new : FileTree) (fresh : List Node) (leads : Led steps before new fresh) (few : length steps < 2 ^ 32) (old : History) where
  abbrev P : FileTree → Type 0
  P = IsInterruptedBy Text steps before new fresh

  abbrev place : ℕ → FileTree
  place k = after (take k steps) (start before fresh)

  plan_back : (k : ℕ) → plan ≢ back_marker k
  plan_back k = differ plan (back_marker k) 112 98 i-plan (i-back k) refl

  back_next : (k n : ℕ) → 0 < n → k + n ≤ length steps → back_marker k ≢ back_marker (k + n)
  back_next k n some within same = let no : k ≡ k + n = back_injects k (k + n) (omega arith) (omega arith) same in absurd (omega arith)

  -- those of a group that were done are undone, and then the marker
  module _ (now : History) (k : ℕ) (g : List Step) (h : Back steps before new fresh leads k g) (u : FileTree) (comes : ComesBySome g (place k) u)
      (moments : LeavesOnly old now P) (durable : IsDurable now) (sound : IsSound now) (s : StandsAs Text (back_marker (k + length g)) u (current_tree now)) where
    tree_k : IsTree (place k)
    tree_k = (entries_at steps before new fresh leads k).tree

    based_k : Based (place k)
    based_k = based_at steps before new fresh leads k

    abbrev m : List ℕ
    m = back_marker (k + length g)

    abbrev taken : List Step
    taken = taken_of g (place k) u comes

    abbrev Q : FileTree → Type 0
    Q = Amid Text (place k) g tree_k h.free based_k m (own-back (k + length g)) (plan_back (k + length g))

    undid : Undid Text (place k) g tree_k h.free based_k m (own-back (k + length g)) (plan_back (k + length g)) taken now (place k)
    undid = undo_all Text (place k) g tree_k h.free based_k m (own-back (k + length g)) (plan_back (k + length g)) taken now (place k) (of_taken g (place k) u comes)
        tree_k (free_taken g (place k) (place k) u h.free comes) sound (subst (λ v. StandsAs Text m v (current_tree now)) (taken_is g (place k) u comes) s)

    pending : Pending now Q
    pending = pending-durable now Q durable sound record { u = u; comes = comes; stands = s }

    safe_group : IsSafe old P now (undo_calls taken ++ call.Sync ∷ [])
    safe_group = closed_synced old P Q now (undo_calls taken) (λ t amid. row_back Text steps before new fresh leads k g amid.u t h amid.comes amid.stands) moments pending undid.closed

    abbrev done1 : History
    done1 = then_all now (undo_calls taken)

    abbrev mid : History
    mid = Then done1 call.Sync

    is_mid : then_all now (undo_calls taken ++ call.Sync ∷ []) ≡ mid
    is_mid = then_all-append now (undo_calls taken) (call.Sync ∷ [])

    sound_mid : IsSound mid
    sound_mid = sound_then call.Sync done1 (sound_all now (undo_calls taken) sound (closed_can Q now (undo_calls taken) undid.closed)) tt

    abbrev mark : Change
    mark = call.Rename (staged m) (staged (back_marker k))

    names_next : AreNames (staged (back_marker k))
    names_next = let le = h.within in back_names k (omega arith)

    can_next : CanDo mark (current_tree mid)
    can_next = can_mark Text (place k) based_k m (own-back (k + length g)) (plan_back (k + length g)) (current_tree mid) sound_mid.tree undid.stands (back_marker k) (own-back k) (λ e. plan_back k (sym e)) (back_next k (length g) h.some h.within) names_next

    marked : StandsAs Text (back_marker k) (place k) (current_tree (Then mid mark))
    marked = stands_marked Text (place k) based_k m (own-back (k + length g)) (plan_back (k + length g)) (current_tree mid) sound_mid.tree undid.stands (back_marker k) (own-back k) (λ e. plan_back k (sym e)) (back_next k (length g) h.some h.within) names_next

    moments_mid : LeavesOnly old mid P
    moments_mid = subst (λ (x : History). LeavesOnly old x P) is_mid (safe_all old P now (undo_calls taken ++ call.Sync ∷ []) safe_group)

    safe_mark : IsSafe old P mid (mark ∷ call.Sync ∷ [])
    safe_mark = single_synced old P mid mark refl refl (durable-sync done1) moments_mid can_next
        (row_back Text steps before new fresh leads k g (place k) (current_tree mid) h (none_done g (place k)) undid.stands)
        (let le = h.within in back_at Text steps before new fresh leads k (current_tree (Then mid mark)) (omega arith) marked)

    abbrev both : List Change
    both = unmarked_calls taken (staged m) (staged (back_marker k))

    pub safe_both : IsSafe old P now both
    safe_both = safe_append old P now (undo_calls taken ++ call.Sync ∷ []) (mark ∷ call.Sync ∷ []) safe_group (subst (λ (x : History). IsSafe old P x (mark ∷ call.Sync ∷ [])) (sym is_mid) safe_mark)

    is_both : then_all now both ≡ Then (Then mid mark) call.Sync
    is_both = then_all-append now (undo_calls taken ++ call.Sync ∷ []) (mark ∷ call.Sync ∷ []) ∙ ap (λ (x : History). then_all x (mark ∷ call.Sync ∷ [])) is_mid

    pub returning_next : Returning Text steps before new fresh old (then_all now both) k
    returning_next = subst (λ (x : History). Returning Text steps before new fresh old x k) (sym is_both) record {
      moments = safe_all old P mid (mark ∷ call.Sync ∷ []) safe_mark;
      durable = durable-sync (Then mid mark);
      sound = sound_all mid (mark ∷ call.Sync ∷ []) sound_mid (safe_can old P mid (mark ∷ call.Sync ∷ []) safe_mark);
      stands = marked;
    }

  -- a whole group
  pub record CameBack (now : History) (k : ℕ) (g : List Step) : Type 0 where
    pub safe : IsSafe old P now (back_calls k g g)
    pub returning : Returning Text steps before new fresh old (then_all now (back_calls k g g)) k

  one_back : (now : History) (k : ℕ) (g : List Step) → Back steps before new fresh leads k g → Returning Text steps before new fresh old now (k + length g) → CameBack now k g
  one_back now k g h r =
      let is : taken_of g (place k) (after g (place k)) (all_done g (place k)) ≡ g = taken_all g (place k) in
      let s : StandsAs Text (back_marker (k + length g)) (after g (place k)) (current_tree now) = subst (λ v. StandsAs Text (back_marker (k + length g)) v (current_tree now)) h.more r.stands in
      record {
        safe = subst (λ l. IsSafe old P now (back_calls k g l)) is (safe_both now k g h (after g (place k)) (all_done g (place k)) r.moments r.durable r.sound s);
        returning = subst (λ l. Returning Text steps before new fresh old (then_all now (back_calls k g l)) k) is (returning_next now k g h (after g (place k)) (all_done g (place k)) r.moments r.durable r.sound s);
      }

  pub record Returned (now : History) (k : ℕ) (gs : List (List Step)) : Type 0 where
    pub safe : IsSafe old P now (undo_from k gs)
    pub returning : Returning Text steps before new fresh old (then_all now (undo_from k gs)) k

  -- whole groups, the last one first
  pub go_back : (gs : List (List Step)) (k : ℕ) (now : History) → AllBack steps before new fresh leads k gs → Returning Text steps before new fresh old now (k + length (joined gs)) → Returned now k gs
  go_back [] k now all r = let e : k + 0 ≡ k = omega arith in record { safe = r.moments; returning = subst (Returning Text steps before new fresh old now) e r }
  go_back (g ∷ gs) k now all r =
      let n = length-append g (joined gs) in
      let e : k + length (g ++ joined gs) ≡ k + length g + length (joined gs) = omega arith in
      let rest = go_back gs (k + length g) now all.1 (subst (Returning Text steps before new fresh old now) e r) in
      let mid = then_all now (undo_from (k + length g) gs) in
      let one = one_back mid k g all.0 rest.returning in
      record {
        safe = safe_append old P now (undo_from (k + length g) gs) (back_calls k g g) rest.safe one.safe;
        returning = subst (λ h. Returning Text steps before new fresh old h k) (sym (then_all-append now (undo_from (k + length g) gs) (back_calls k g g))) one.returning;
      }

  -- ---- from `back-m` with any of the steps from the last cut to it done, to `back-0`

  module _ (now : History) (k m : ℕ) (u : FileTree) (le : m ≤ length steps) (cut : m ≡ k + length (from_last_cut m (groups steps))) (comes : ComesBySome (from_last_cut m (groups steps)) (place k) u)
      (moments : LeavesOnly old now P) (durable : IsDurable now) (sound : IsSound now) (s : StandsAs Text (back_marker m) u (current_tree now)) where
    abbrev pub taken_before : List Step
    taken_before = taken_of (from_last_cut m (groups steps)) (place k) u comes

    pub record Home : Type 0 where
      pub safe : IsSafe old P now (home_calls steps m taken_before)
      pub returning : Returning Text steps before new fresh old (then_all now (home_calls steps m taken_before)) 0

    abbrev first_calls : List Change
    first_calls = unmarked_calls taken_before (staged (back_marker m)) (staged (back_marker k))

    abbrev front : List (List Step)
    front = whole_before k (groups steps)

    module _ (some : 0 < m) where
      c : Cut steps before new fresh leads k m
      c = cut_at steps before new fresh leads k m some le cut

      s1 : StandsAs Text (back_marker (k + length (from_last_cut m (groups steps)))) u (current_tree now)
      s1 = subst (λ n. StandsAs Text (back_marker n) u (current_tree now)) cut s

      marker_is : back_calls k (from_last_cut m (groups steps)) taken_before ≡ first_calls
      marker_is = ap (λ n. unmarked_calls taken_before (staged (back_marker n)) (staged (back_marker k))) (sym cut)

      first_safe : IsSafe old P now first_calls
      first_safe = subst (IsSafe old P now) marker_is (safe_both now k (from_last_cut m (groups steps)) c.back u comes moments durable sound s1)

      first_return : Returning Text steps before new fresh old (then_all now first_calls) k
      first_return = subst (λ (cs : List Change). Returning Text steps before new fresh old (then_all now cs) k) marker_is (returning_next now k (from_last_cut m (groups steps)) c.back u comes moments durable sound s1)

      whole : Returned (then_all now first_calls) 0 front
      whole = go_back front 0 (then_all now first_calls) c.fronts (subst (Returning Text steps before new fresh old (then_all now first_calls)) c.count first_return)

      calls_are : home_calls steps m taken_before ≡ first_calls ++ undo_from 0 front
      calls_are =
          let other : (m == 0) ≡ false = ne_eqb m 0 (λ same. absurd (omega arith)) in
          let k_is : m - length (from_last_cut m (groups steps)) ≡ k = omega arith in
          cond-false (m == 0) [] (unmarked_calls taken_before (staged (back_marker m)) (staged (back_marker (m - length (from_last_cut m (groups steps))))) ++ undo_from 0 (whole_before (m - length (from_last_cut m (groups steps))) (groups steps))) other
          ∙ ap (λ n. unmarked_calls taken_before (staged (back_marker m)) (staged (back_marker n)) ++ undo_from 0 (whole_before n (groups steps))) k_is

      home_some : Home
      home_some = record {
        safe = subst (IsSafe old P now) (sym calls_are) (safe_append old P now first_calls (undo_from 0 front) first_safe whole.safe);
        returning = subst (λ (cs : List Change). Returning Text steps before new fresh old (then_all now cs) 0) (sym calls_are)
            (subst (λ (h : History). Returning Text steps before new fresh old h 0) (sym (then_all-append now first_calls (undo_from 0 front))) whole.returning);
      }

    home_none : m ≡ 0 → Home
    home_none zero_is =
        let calls_are : home_calls steps m taken_before ≡ [] = cond-true (m == 0) [] (unmarked_calls taken_before (staged (back_marker m)) (staged (back_marker (m - length (from_last_cut m (groups steps))))) ++ undo_from 0 (whole_before (m - length (from_last_cut m (groups steps))) (groups steps))) (eq-eqb m 0 zero_is) in
        let k_is : k ≡ 0 = omega arith in
        let none : from_last_cut m (groups steps) ≡ [] = ap (λ n. from_last_cut n (groups steps)) zero_is ∙ from_last_cut-zero (groups steps) in
        let u_is : u ≡ place k = subst (λ l. ComesBySome l (place k) u) none comes in
        let stands : StandsAfter Text steps before fresh (back_marker 0) 0 (current_tree now) = subst (λ n. StandsAs Text (back_marker n) (place 0) (current_tree now)) zero_is (subst (λ v. StandsAs Text (back_marker m) v (current_tree now)) (u_is ∙ ap place k_is) s) in
        record {
          safe = subst (IsSafe old P now) (sym calls_are) moments;
          returning = subst (λ (cs : List Change). Returning Text steps before new fresh old (then_all now cs) 0) (sym calls_are) record { moments = moments; durable = durable; sound = sound; stands = stands };
        }

    pub home : Home
    home = ⊎_elim (λ (e : m ≡ 0). home_none e) (λ (lt : 0 < m). home_some lt) (zero_or m)
      where
        zero_or : (n : ℕ) → (n ≡ 0) ⊎ (0 < n)
        zero_or zero = inl refl
        zero_or (suc n) = inr (omega arith)

  -- ---- where the marker turns round

  module _ (now : History) (k : ℕ) (moments : LeavesOnly old now P) (durable : IsDurable now) (sound : IsSound now) where
    plan_at : plan ≢ at_marker k
    plan_at = differ plan (at_marker k) 112 97 i-plan (i-at k) refl

    back_at_other : (j : ℕ) → back_marker j ≢ at_marker k
    back_at_other j = differ (back_marker j) (at_marker k) 98 97 (i-back j) (i-at k) refl

    -- no step of its group was done
    module _ (le : k ≤ length steps) (s : StandsAfter Text steps before fresh (at_marker k) k (current_tree now)) where
      abbrev turn : Change
      turn = call.Rename (staged (at_marker k)) (staged (back_marker k))

      pub turned : StandsAfter Text steps before fresh (back_marker k) k (current_tree (Then now turn))
      turned = stands_marked Text (place k) (based_at steps before new fresh leads k) (at_marker k) (own-at k) plan_at (current_tree now) sound.tree s (back_marker k) (own-back k) (λ e. plan_back k (sym e)) (back_at_other k) (back_names k (omega arith))

      pub safe_turn : IsSafe old P now (turn_calls k k)
      safe_turn = single_synced old P now turn refl refl durable moments
          (can_mark Text (place k) (based_at steps before new fresh leads k) (at_marker k) (own-at k) plan_at (current_tree now) sound.tree s (back_marker k) (own-back k) (λ e. plan_back k (sym e)) (back_at_other k) (back_names k (omega arith)))
          (forward leads.leads k (place k) le (none_done (to_next_cut k (groups steps)) (place k)) s) (back_at Text steps before new fresh leads k (current_tree (Then now turn)) le turned)

      pub first_returning : Returning Text steps before new fresh old (then_all now (turn_calls k k)) k
      first_returning = record {
        moments = safe_all old P now (turn_calls k k) safe_turn;
        durable = durable-sync (Then now turn);
        sound = sound_all now (turn_calls k k) sound (safe_can old P now (turn_calls k k) safe_turn);
        stands = turned;
      }

    -- some of its group were done
    module _ (i : Inside steps before new fresh leads k) (u : FileTree) (comes : ComesBySome i.g (place k) u) (s : StandsAs Text (at_marker k) u (current_tree now)) where
      abbrev j : ℕ
      j = i.from + length i.whole

      abbrev turn_some : Change
      turn_some = call.Rename (staged (at_marker k)) (staged (back_marker j))

      tree_k1 : IsTree (place k)
      tree_k1 = (entries_at steps before new fresh leads k).tree

      based_u : Based u
      based_u = based_comes i.g (place k) u tree_k1 i.stretch.free (based_at steps before new fresh leads k) comes

      names_j : AreNames (staged (back_marker j))
      names_j = let le = i.back.within in back_names j (omega arith)

      pub some_turned : StandsAs Text (back_marker j) u (current_tree (Then now turn_some))
      some_turned = stands_marked Text u based_u (at_marker k) (own-at k) plan_at (current_tree now) sound.tree s (back_marker j) (own-back j) (λ e. plan_back j (sym e)) (back_at_other j) names_j

      pub safe_turn_some : IsSafe old P now (turn_calls k j)
      safe_turn_some = single_synced old P now turn_some refl refl durable moments
          (can_mark Text u based_u (at_marker k) (own-at k) plan_at (current_tree now) sound.tree s (back_marker j) (own-back j) (λ e. plan_back j (sym e)) (back_at_other j) names_j)
          (let le = i.stretch.within in forward leads.leads k u (omega arith) (subst (λ l. ComesBySome l (place k) u) (sym i.stretch.is) comes) s)
          (row_back Text steps before new fresh leads i.from i.whole u (current_tree (Then now turn_some)) i.back (i.widen u comes) some_turned)

      pub moments_some : LeavesOnly old (then_all now (turn_calls k j)) P
      moments_some = safe_all old P now (turn_calls k j) safe_turn_some

      pub sound_some : IsSound (then_all now (turn_calls k j))
      sound_some = sound_all now (turn_calls k j) sound (safe_can old P now (turn_calls k j) safe_turn_some)
