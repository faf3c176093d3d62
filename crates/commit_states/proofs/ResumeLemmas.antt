-- A recovery forward, where `plan` and `at-m` stand and any of the steps from m to the next cut are done.
use Rattle.std.proofs.Common.{◌≡◌, ⊎_elim, ℕ, ◌+◌, ◌≤◌, ◌<◌, ◌^◌, nat_lt, List, [], ◌∷◌, ◌++◌, length, take, sym, ◌∙◌, ap, subst, arith}
use Rattle.tree_core.specs.declared.node.Node.{Node}
use Rattle.tree_core.specs.declared.node.Change.{Change}
use Rattle.tree_core.specs.declared.node.Change.TheVariants as call
use Rattle.tree_core.specs.FileTree.{FileTree}
use Rattle.tree_core.specs.History.{History, Then, IsSound, current_tree, IsDurable, LeavesOnly}
use Rattle.tree_core.specs.Runs.{then_all}
use Rattle.tree_core.proofs.Moments.{durable-sync, goes_on-sync}
use Rattle.tree_core.proofs.Runs.{IsSafe, safe_append, then_all-append}
use Rattle.commit_states.proofs.FinishLemmas.{safe_finish, done_finish}
use Rattle.commit_states.proofs.LoopLemmas.{Ready, Gone, go, safe_both, ready_next}
use Rattle.commit_states.specs.Calls.{resume_calls, marked_calls, calls_from, seal_calls, Cleans, cleaning_calls}
use Rattle.commit_states.specs.Interrupted.{StandsAs, IsInterruptedBy, forward}
use Rattle.commit_states.specs.declared.held.Held.{Held}
use Rattle.commit_steps.specs.Staging.{staged, at_marker}
use Rattle.commit_steps.specs.declared.step.Step.{Step}
use Rattle.step_trees.proofs.PlaceLemmas.{Inside, inside_at, end_behind}
use Rattle.step_trees.specs.Groups.{whole_behind, groups, to_next_cut, ComesBySome, left_of}
use Rattle.step_trees.specs.Leads.{start}
use Rattle.step_trees.specs.Steps.{after}
use Rattle.step_trees.proofs.LeadLemmas.{Led}
use Rattle.std.proofs.Math.Path.{path_j, subst_refl}
use Rattle.std.proofs.lemmas.Bool.{cases_Bool, cond-true, cond-false, lt-ltb, le-ltb, ltb-true, ltb-false}
use Rattle.tree_core.proofs.Sound.{sound_then}

-- the steps that are still to be done, of a list that is the same
left_moved : (g : List Step) (t u : FileTree) (some : ComesBySome g t u) (f : List Step) (e : g ≡ f) → left_of f t u (subst (λ l. ComesBySome l t u) e some) ≡ left_of g t u some
left_moved g t u some f e = path_j (λ l (p : g ≡ l). left_of l t u (subst (λ x. ComesBySome x t u) p some) ≡ left_of g t u some) (ap (left_of g t u) (subst_refl (λ x. ComesBySome x t u) some)) e

module _ (Text : List ℕ → Type 0) (steps : List Step) (old new : FileTree) (fresh : List Node) (leads : Led steps old new fresh) (few : length steps < 2 ^ 32) (o : History) where
  abbrev P : FileTree → Type 0
  P = IsInterruptedBy Text steps old new fresh

  abbrev place : ℕ → FileTree
  place k = after (take k steps) (start old fresh)

  -- what is left of the group of place m, and the groups behind it
  module _ (now : History) (m : ℕ) (i : Inside steps old new fresh leads m) (u : FileTree) (comes : ComesBySome i.g (place m) u)
      (moments : LeavesOnly o now P) (durable : IsDurable now) (sound : IsSound now) (s : StandsAs Text (at_marker m) u (current_tree now)) where
    abbrev one : List Change
    one = marked_calls (left_of i.g (place m) u comes) (staged (at_marker m)) (staged (at_marker (m + length i.g)))

    abbrev pub resumed_calls : List Change
    resumed_calls = one ++ calls_from (m + length i.g) i.gs

    gone : Gone Text steps old new fresh leads few o (then_all now one) (m + length i.g) i.gs
    gone = go Text steps old new fresh leads few o i.gs (then_all now one) (m + length i.g) i.rest (ready_next Text steps old new fresh leads few o now m i.g i.stretch u comes moments durable sound s)

    pub safe_resumed : IsSafe o P now resumed_calls
    safe_resumed = safe_append o P now one (calls_from (m + length i.g) i.gs) (safe_both Text steps old new fresh leads few o now m i.g i.stretch u comes moments durable sound s) gone.safe

    pub ready_resumed : Ready Text steps old new fresh o (then_all now resumed_calls) (length steps)
    ready_resumed = subst (λ (h : History). Ready Text steps old new fresh o h (length steps)) (sym (then_all-append now one (calls_from (m + length i.g) i.gs))) gone.ready

  -- The whole of it, behind a sync.
  module _ (now : History) (moments : LeavesOnly o now P) (sound : IsSound now) (hs : List Held) (cleans : Cleans hs (after (take (length steps) steps) (start old fresh)))
      (m : ℕ) (u : FileTree) (le : m ≤ length steps) (comes : ComesBySome (to_next_cut m (groups steps)) (place m) u) (s : StandsAs Text (at_marker m) u (current_tree now)) where
    abbrev synced : History
    synced = Then now call.Sync

    synced_moments : LeavesOnly o synced P
    synced_moments = goes_on-sync o now P moments (forward leads.leads m u le comes s)

    synced_sound : IsSound synced
    synced_sound = sound_then call.Sync now sound tt

    abbrev left : List Step
    left = left_of (to_next_cut m (groups steps)) (place m) u comes

    record Resumed : Type 0 where
      pub safe : IsSafe o P synced (resume_calls steps m left)
      pub ready : Ready Text steps old new fresh o (then_all synced (resume_calls steps m left)) (length steps)

    -- m lies before the end
    resumed_inside : m < length steps → Inside steps old new fresh leads m → Resumed
    resumed_inside lt i =
        let some : ComesBySome i.g (place m) u = subst (λ l. ComesBySome l (place m) u) i.stretch.is comes in
        let left_is : left_of i.g (place m) u some ≡ left = left_moved (to_next_cut m (groups steps)) (place m) u comes i.g i.stretch.is in
        let to : resumed_calls synced m i u some synced_moments (durable-sync now) synced_sound s ≡ resume_calls steps m left =
        ap (λ l. marked_calls l (staged (at_marker m)) (staged (at_marker (m + length i.g))) ++ calls_from (m + length i.g) i.gs) left_is
        ∙ ap (λ g. marked_calls left (staged (at_marker m)) (staged (at_marker (m + length g))) ++ calls_from (m + length g) i.gs) (sym i.stretch.is)
        ∙ ap (λ gs. marked_calls left (staged (at_marker m)) (staged (at_marker (m + length (to_next_cut m (groups steps))))) ++ calls_from (m + length (to_next_cut m (groups steps))) gs) (sym i.behind_is)
        ∙ sym (cond-true (nat_lt m (length steps)) (marked_calls left (staged (at_marker m)) (staged (at_marker (m + length (to_next_cut m (groups steps))))) ++ calls_from (m + length (to_next_cut m (groups steps))) (whole_behind m (groups steps))) [] (lt-ltb m (length steps) lt)) in
        record {
          safe = subst (IsSafe o P synced) to (safe_resumed synced m i u some synced_moments (durable-sync now) synced_sound s);
          ready = subst (λ (cs : List Change). Ready Text steps old new fresh o (then_all synced cs) (length steps)) to (ready_resumed synced m i u some synced_moments (durable-sync now) synced_sound s);
        }

    -- m is the end
    resumed_end : m ≡ length steps → Resumed
    resumed_end is =
        let none : to_next_cut m (groups steps) ≡ [] = ap (λ n. to_next_cut n (groups steps)) is ∙ end_behind steps old new fresh leads in
        let u_is : u ≡ place m = subst (λ l. ComesBySome l (place m) u) none comes in
        let to : [] ≡ resume_calls steps m left = sym (cond-false (nat_lt m (length steps)) (marked_calls left (staged (at_marker m)) (staged (at_marker (m + length (to_next_cut m (groups steps))))) ++ calls_from (m + length (to_next_cut m (groups steps))) (whole_behind m (groups steps))) [] (le-ltb m (length steps) (omega arith))) in
        record {
          safe = subst (IsSafe o P synced) to synced_moments;
          ready = subst (λ (cs : List Change). Ready Text steps old new fresh o (then_all synced cs) (length steps)) to record {
            moments = synced_moments;
            durable = durable-sync now;
            sound = synced_sound;
            stands = subst (λ n. StandsAs Text (at_marker n) (place n) (current_tree synced)) is (subst (λ v. StandsAs Text (at_marker m) v (current_tree synced)) u_is s);
          };
        }

    resumed : Resumed
    resumed = ⊎_elim
        (λ short. let lt = ltb-true m (length steps) short in resumed_inside lt (inside_at steps old new fresh leads m lt))
        (λ long. let past = ltb-false m (length steps) long in resumed_end (omega arith))
        (cases_Bool (nat_lt m (length steps)))

    abbrev pub forward_calls : List Change
    forward_calls = resume_calls steps m left ++ (seal_calls ++ cleaning_calls hs (length steps))

    -- A crash at any moment of it leaves an interrupted tree.
    pub safe_forward : IsSafe o P now (call.Sync ∷ forward_calls)
    safe_forward = (
      moments,
      tt,
      safe_append o P synced (resume_calls steps m left) (seal_calls ++ cleaning_calls hs (length steps)) resumed.safe
          (safe_finish Text steps old new fresh leads hs cleans o (then_all synced (resume_calls steps m left)) resumed.ready),
    )

    -- Behind it the edited tree stands, and nothing is pending.
    pub done_forward : (current_tree (then_all synced forward_calls) ≡ new) × IsDurable (then_all synced forward_calls)
    done_forward = subst (λ (h : History). (current_tree h ≡ new) × IsDurable h) (sym (then_all-append synced (resume_calls steps m left) (seal_calls ++ cleaning_calls hs (length steps))))
        (done_finish Text steps old new fresh leads hs cleans o (then_all synced (resume_calls steps m left)) resumed.ready)
