-- The groups of a commit, as a history goes through them.
use Rattle.std.proofs.Common.{◌≡◌, ◌≢◌, ℕ, ◌+◌, ◌<◌, ◌≤◌, ◌^◌, List, [], ◌∷◌, ◌++◌, length, take, refl, sym, ◌∙◌, ap, subst, arith}
use Rattle.tree_core.specs.declared.node.Node.{Node}
use Rattle.tree_core.specs.declared.node.Change.{Change}
use Rattle.tree_core.specs.declared.node.Change.TheVariants as call
use Rattle.tree_core.specs.FileTree.{FileTree, IsTree, CanDo}
use Rattle.tree_core.specs.History.{History, Then, IsSound, current_tree, IsDurable, LeavesOnly}
use Rattle.tree_core.specs.Runs.{then_all}
use Rattle.tree_core.proofs.Moments.{durable-sync, pending-durable, Pending}
use Rattle.tree_core.proofs.Runs.{IsSafe, safe_append, safe_all, safe_can, sound_all, closed_synced, closed_can, single_synced, then_all-append}
use Rattle.tree_core.proofs.Sound.{sound_then}
use Rattle.commit_states.proofs.StandLemmas.{can_mark, stands_marked}
use Rattle.commit_states.proofs.WithinLemmas.{based_comes, Amid, Did, do_all}
use Rattle.commit_states.specs.Calls.{do_calls, marked_calls, group_calls, calls_from}
use Rattle.commit_states.specs.Interrupted.{StandsAs, StandsAfter, IsInterruptedBy, forward}
use Rattle.commit_steps.specs.Staging.{staged, plan, at_marker}
use Rattle.commit_steps.specs.declared.step.Step.{Step}
use Rattle.step_trees.proofs.ChoiceLemmas.{none_done, all_done, left_none, free_left, after_left, of_left}
use Rattle.step_trees.proofs.GroupLemmas.{tree_comes}
use Rattle.step_trees.proofs.LeadLemmas.{Led, Based, entries_at, based_at}
use Rattle.step_trees.proofs.NameLemmas.{own-at, i-plan, i-at, differ, at_injects}
use Rattle.step_trees.proofs.PlaceLemmas.{Remains, Stretch, first_stretch, remains_next}
use Rattle.step_trees.specs.Groups.{groups, to_next_cut, ComesBySome, left_of}
use Rattle.step_trees.specs.Leads.{start}
use Rattle.step_trees.specs.Steps.{after}
use Rattle.dired_text.specs.Paths.{AreNames}
use Rattle.commit_states.proofs.OwnNames.{at_names}

-- the moment with nothing pending at which `plan` and `at-k` stand and k steps are done
pub record Ready (Text : List ℕ → Type 0) (steps : List Step) (before new : FileTree) (fresh : List Node) (old now : History) (k : ℕ) : Type 0 where
  pub moments : LeavesOnly old now (IsInterruptedBy Text steps before new fresh)
  pub durable : IsDurable now
  pub sound : IsSound now
  pub stands : StandsAfter Text steps before fresh (at_marker k) k (current_tree now)

-- such a tree is interrupted
abbrev pub forward_at : (Text : List ℕ → Type 0) (steps : List Step) (old new : FileTree) (fresh : List Node) → Led steps old new fresh → (m : ℕ) (t : FileTree) → m ≤ length steps → StandsAfter Text steps old fresh (at_marker m) m t → IsInterruptedBy Text steps old new fresh t
forward_at Text steps old new fresh leads m t le s = forward leads.leads m (after (take m steps) (start old fresh)) le (none_done (to_next_cut m (groups steps)) (after (take m steps) (start old fresh))) s

module _ (Text : List ℕ → Type 0) (steps : List Step) (before new : FileTree) (fresh : List Node) (leads : Led steps before new fresh) (few : length steps < 2 ^ 32) (old : History) where
  abbrev P : FileTree → Type 0
  P = IsInterruptedBy Text steps before new fresh

  abbrev at : ℕ → FileTree
  at k = after (take k steps) (start before fresh)

  pub plan_at : (k : ℕ) → plan ≢ at_marker k
  plan_at k = differ plan (at_marker k) 112 97 i-plan (i-at k) refl

  at_next : (k n : ℕ) → 0 < n → k + n ≤ length steps → at_marker (k + n) ≢ at_marker k
  at_next k n some within same = let no : k + n ≡ k = at_injects (k + n) k (omega arith) (omega arith) same in absurd (omega arith)

  -- what is left of a group is done, whichever of its steps were done, and then the marker
  module _ (now : History) (k : ℕ) (g : List Step) (h : Stretch steps before new fresh leads k g) (u : FileTree) (comes : ComesBySome g (at k) u)
      (moments : LeavesOnly old now P) (durable : IsDurable now) (sound : IsSound now) (s : StandsAs Text (at_marker k) u (current_tree now)) where
    pub tree_k : IsTree (at k)
    tree_k = (entries_at steps before new fresh leads k).tree

    pub based_k : Based (at k)
    based_k = based_at steps before new fresh leads k

    abbrev pub left : List Step
    left = left_of g (at k) u comes

    abbrev pub Q : FileTree → Type 0
    Q = Amid Text (at k) g tree_k h.free based_k (at_marker k) (own-at k) (plan_at k)

    pub did : Did Text (at k) g tree_k h.free based_k (at_marker k) (own-at k) (plan_at k) left now u
    did = do_all Text (at k) g tree_k h.free based_k (at_marker k) (own-at k) (plan_at k) left now u (of_left g (at k) u comes)
        (tree_comes g (at k) u tree_k h.free comes) (free_left g (at k) u tree_k h.free comes) (based_comes g (at k) u tree_k h.free based_k comes) sound s

    pub row : (v t : FileTree) → ComesBySome g (at k) v → StandsAs Text (at_marker k) v t → P t
    row v t some stands = let le = h.within in forward leads.leads k v (omega arith) (subst (λ l. ComesBySome l (at k) v) (sym h.is) some) stands

    pub pending : Pending now Q
    pending = pending-durable now Q durable sound record { u = u; comes = comes; stands = s }

    pub safe_group : IsSafe old P now (do_calls left ++ call.Sync ∷ [])
    safe_group = closed_synced old P Q now (do_calls left) (λ t amid. row amid.u t amid.comes amid.stands) moments pending did.closed

    abbrev pub done1 : History
    done1 = then_all now (do_calls left)

    abbrev pub mid : History
    mid = Then done1 call.Sync

    pub is_mid : then_all now (do_calls left ++ call.Sync ∷ []) ≡ mid
    is_mid = then_all-append now (do_calls left) (call.Sync ∷ [])

    pub sound_mid : IsSound mid
    sound_mid = sound_then call.Sync done1 (sound_all now (do_calls left) sound (closed_can Q now (do_calls left) did.closed)) tt

    pub stands_mid : StandsAs Text (at_marker k) (at (k + length g)) (current_tree mid)
    stands_mid = subst (λ v. StandsAs Text (at_marker k) v (current_tree mid)) (after_left g (at k) u tree_k h.free comes ∙ sym h.more) did.stands

    based_next : Based (at (k + length g))
    based_next = based_at steps before new fresh leads (k + length g)

    abbrev pub mark : Change
    mark = call.Rename (staged (at_marker k)) (staged (at_marker (k + length g)))

    names_next : AreNames (staged (at_marker (k + length g)))
    names_next = let le = h.within in at_names (k + length g) (omega arith)

    pub can_next : CanDo mark (current_tree mid)
    can_next = can_mark Text (at (k + length g)) based_next (at_marker k) (own-at k) (plan_at k) (current_tree mid) sound_mid.tree stands_mid (at_marker (k + length g)) (own-at (k + length g)) (λ e. plan_at (k + length g) (sym e)) (at_next k (length g) h.some h.within) names_next

    pub marked : StandsAs Text (at_marker (k + length g)) (at (k + length g)) (current_tree (Then mid mark))
    marked = stands_marked Text (at (k + length g)) based_next (at_marker k) (own-at k) (plan_at k) (current_tree mid) sound_mid.tree stands_mid (at_marker (k + length g)) (own-at (k + length g)) (λ e. plan_at (k + length g) (sym e)) (at_next k (length g) h.some h.within) names_next

    moments_mid : LeavesOnly old mid P
    moments_mid = subst (λ (x : History). LeavesOnly old x P) is_mid (safe_all old P now (do_calls left ++ call.Sync ∷ []) safe_group)

    pub safe_mark : IsSafe old P mid (mark ∷ call.Sync ∷ [])
    safe_mark = single_synced old P mid mark refl refl (durable-sync done1) moments_mid can_next
        (row (at (k + length g)) (current_tree mid) (subst (ComesBySome g (at k)) (sym h.more) (all_done g (at k))) stands_mid)
        (forward_at Text steps before new fresh leads (k + length g) (current_tree (Then mid mark)) h.within marked)

    abbrev pub both : List Change
    both = marked_calls left (staged (at_marker k)) (staged (at_marker (k + length g)))

    pub safe_both : IsSafe old P now both
    safe_both = safe_append old P now (do_calls left ++ call.Sync ∷ []) (mark ∷ call.Sync ∷ []) safe_group (subst (λ (x : History). IsSafe old P x (mark ∷ call.Sync ∷ [])) (sym is_mid) safe_mark)

    is_both : then_all now both ≡ Then (Then mid mark) call.Sync
    is_both = then_all-append now (do_calls left ++ call.Sync ∷ []) (mark ∷ call.Sync ∷ []) ∙ ap (λ (x : History). then_all x (mark ∷ call.Sync ∷ [])) is_mid

    pub ready_next : Ready Text steps before new fresh old (then_all now both) (k + length g)
    ready_next = subst (λ (x : History). Ready Text steps before new fresh old x (k + length g)) (sym is_both) record {
      moments = safe_all old P mid (mark ∷ call.Sync ∷ []) safe_mark;
      durable = durable-sync (Then mid mark);
      sound = sound_all mid (mark ∷ call.Sync ∷ []) sound_mid (safe_can old P mid (mark ∷ call.Sync ∷ []) safe_mark);
      stands = marked;
    }

  -- a whole group
  pub record Went (now : History) (k : ℕ) (g : List Step) : Type 0 where
    pub safe : IsSafe old P now (group_calls k g)
    pub ready : Ready Text steps before new fresh old (then_all now (group_calls k g)) (k + length g)

  pub one_group : (now : History) (k : ℕ) (g : List Step) → Stretch steps before new fresh leads k g → Ready Text steps before new fresh old now k → Went now k g
  one_group now k g h r =
      let is : left_of g (at k) (at k) (none_done g (at k)) ≡ g = left_none g (at k) in
      record {
        safe = subst (λ l. IsSafe old P now (marked_calls l (staged (at_marker k)) (staged (at_marker (k + length g))))) is (safe_both now k g h (at k) (none_done g (at k)) r.moments r.durable r.sound r.stands);
        ready = subst (λ l. Ready Text steps before new fresh old (then_all now (marked_calls l (staged (at_marker k)) (staged (at_marker (k + length g))))) (k + length g)) is (ready_next now k g h (at k) (none_done g (at k)) r.moments r.durable r.sound r.stands);
      }

  -- the groups from place k on
  pub record Gone (now : History) (k : ℕ) (gs : List (List Step)) : Type 0 where
    pub safe : IsSafe old P now (calls_from k gs)
    pub ready : Ready Text steps before new fresh old (then_all now (calls_from k gs)) (length steps)

  pub go : (gs : List (List Step)) (now : History) (k : ℕ) → Remains steps before new fresh leads k gs → Ready Text steps before new fresh old now k → Gone now k gs
  go [] now k m r = record {
    safe = r.moments;
    ready = let c = m.count in let e : k ≡ length steps = omega arith in subst (Ready Text steps before new fresh old now) e r;
  }
  go (g ∷ gs) now k m r =
      let one = one_group now k g (first_stretch steps before new fresh leads k g gs m) r in
      let rest = go gs (then_all now (group_calls k g)) (k + length g) (remains_next steps before new fresh leads k g gs m) one.ready in
      record {
        safe = safe_append old P now (group_calls k g) (calls_from (k + length g) gs) one.safe rest.safe;
        ready = subst (λ h. Ready Text steps before new fresh old h (length steps)) (sym (then_all-append now (group_calls k g) (calls_from (k + length g) gs))) rest.ready;
      }
