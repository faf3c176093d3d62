-- A call among the steps failed: which marker stands, and which steps of its group are done.
use Rattle.std.proofs.Common.{◌≡◌, ◌⊎◌, inl, inr, ⊎_elim, ℕ, ◌+◌, ◌<◌, ◌^◌, List, [], ◌∷◌, ◌++◌, length, length-append, take, refl, sym, subst, arith}
use Rattle.tree_core.specs.declared.node.Node.{Node}
use Rattle.tree_core.specs.declared.node.Change.{Change}
use Rattle.tree_core.specs.declared.node.Change.TheVariants as call
use Rattle.tree_core.specs.declared.node.CallName.{CallName}
use Rattle.tree_core.specs.FileTree.{FileTree}
use Rattle.tree_core.specs.History.{History, Then, IsSound, current_tree, IsDurable, LeavesOnly}
use Rattle.tree_core.specs.Runs.{then_all, FailedIn, FailedCall}
use Rattle.tree_core.proofs.Moments.{durable-sync, goes_on-sync, Pending}
use Rattle.tree_core.proofs.Runs.{safe_failed, closed_failed, closed_can, sound_all, then_all-append}
use Rattle.tree_core.proofs.Sound.{sound_then}
use Rattle.commit_states.proofs.LoopLemmas.{Ready, one_group, left, Q, did, pending, is_mid, sound_mid, stands_mid, can_next, marked, safe_both}
use Rattle.commit_states.specs.Calls.{do_calls, marked_calls, group_calls, calls_from}
use Rattle.commit_states.specs.Stops.{Halted}
use Rattle.commit_states.specs.Interrupted.{StandsAs, IsInterruptedBy, forward}
use Rattle.commit_steps.specs.Staging.{staged, at_marker}
use Rattle.commit_steps.specs.declared.step.Step.{Step}
use Rattle.step_trees.proofs.ChoiceLemmas.{none_done, all_done, left_none}
use Rattle.step_trees.proofs.PlaceLemmas.{Remains, Stretch, first_stretch, remains_next}
use Rattle.step_trees.specs.Groups.{groups, joined, to_next_cut, ComesBySome}
use Rattle.step_trees.specs.Leads.{start}
use Rattle.step_trees.specs.Steps.{after}
use Rattle.step_trees.proofs.LeadLemmas.{Led}

pub split_failed : (cs ds : List Change) (h last : History) (before : FileTree) (first : CallName) → FailedIn (cs ++ ds) h last before first → FailedIn cs h last before first ⊎ FailedIn ds (then_all h cs) last before first
split_failed [] ds h last before first failed = inr failed
split_failed (c ∷ cs) ds h last before first (inl here) = inl (inl here)
split_failed (c ∷ cs) ds h last before first (inr more) = ⊎_elim (λ k. inl (inr k)) (λ k. inr k) (split_failed cs ds (Then h c) last before first more)

module _ (Text : List ℕ → Type 0) (steps : List Step) (old new : FileTree) (fresh : List Node) (leads : Led steps old new fresh) (few : length steps < 2 ^ 32) (o : History) where
  abbrev P : FileTree → Type 0
  P = IsInterruptedBy Text steps old new fresh

  abbrev place : ℕ → FileTree
  place k = after (take k steps) (start old fresh)

  module _ (now : History) (k : ℕ) (g : List Step) (h : Stretch steps old new fresh leads k g) (r : Ready Text steps old new fresh o now k) (last : History) (before : FileTree) (first : CallName) where
    abbrev none : ComesBySome g (place k) (place k)
    none = none_done g (place k)

    abbrev ls : List Step
    ls = left Text steps old new fresh leads few o now k g h (place k) none r.moments r.durable r.sound r.stands

    abbrev R : FileTree → Type 0
    R = Q Text steps old new fresh leads few o now k g h (place k) none r.moments r.durable r.sound r.stands

    abbrev d1 : History
    d1 = then_all now (do_calls ls)

    abbrev md : History
    md = Then d1 call.Sync

    abbrev mk : Change
    mk = call.Rename (staged (at_marker k)) (staged (at_marker (k + length g)))

    sound_d1 : IsSound d1
    sound_d1 = sound_all now (do_calls ls) r.sound (closed_can R now (do_calls ls) (did Text steps old new fresh leads few o now k g h (place k) none r.moments r.durable r.sound r.stands).closed)

    s_mid : StandsAs Text (at_marker k) (place (k + length g)) (current_tree md)
    s_mid = stands_mid Text steps old new fresh leads few o now k g h (place k) none r.moments r.durable r.sound r.stands

    s_md : IsSound md
    s_md = sound_mid Text steps old new fresh leads few o now k g h (place k) none r.moments r.durable r.sound r.stands

    s_marked : StandsAs Text (at_marker (k + length g)) (place (k + length g)) (current_tree (Then md mk))
    s_marked = marked Text steps old new fresh leads few o now k g h (place k) none r.moments r.durable r.sound r.stands

    sound_mk : IsSound (Then md mk)
    sound_mk = sound_then mk md s_md (can_next Text steps old new fresh leads few o now k g h (place k) none r.moments r.durable r.sound r.stands)

    abbrev H : History → Type 0
    H x = (h : Halted Text steps old new fresh o x) × ((h.m ≡ k) ⊎ (h.m ≡ k + length g))

    here : (x : History) (u : FileTree) → ComesBySome g (place k) u → StandsAs Text (at_marker k) u (current_tree x) → IsSound x → LeavesOnly o x P → H x
    here x u comes stands sound moments = let le = h.within in (record { m = k; u = u; le = omega arith; comes = subst (λ l. ComesBySome l (place k) u) (sym h.is) comes; stands = stands; moments = moments; sound = sound }, inl refl)

    -- all of the group are done
    at_mid : (x y : History) → x ≡ y → current_tree y ≡ current_tree md → IsSound y → LeavesOnly o x P → H x
    at_mid x y is same sound moments = subst H (sym is) (here y (place (k + length g)) (subst (ComesBySome g (place k)) (sym h.more) (all_done g (place k))) (subst (StandsAs Text (at_marker k) (place (k + length g))) (sym same) s_mid) sound (subst (λ (z : History). LeavesOnly o z P) is moments))

    -- and the marker was moved
    at_marked : (x y : History) → x ≡ y → current_tree y ≡ current_tree (Then md mk) → IsSound y → LeavesOnly o x P → H x
    at_marked x y is same sound moments = subst H (sym is) (
      record {
        m = k + length g;
        u = place (k + length g);
        le = h.within;
        comes = none_done (to_next_cut (k + length g) (groups steps)) (place (k + length g));
        stands = subst (StandsAs Text (at_marker (k + length g)) (place (k + length g))) (sym same) s_marked;
        moments = subst (λ (z : History). LeavesOnly o z P) is moments;
        sound = sound;
      },
      inr refl,
    )

    is_md : then_all now (do_calls ls ++ call.Sync ∷ []) ≡ md
    is_md = is_mid Text steps old new fresh leads few o now k g h (place k) none r.moments r.durable r.sound r.stands

    among : LeavesOnly o last P → FailedIn (marked_calls ls (staged (at_marker k)) (staged (at_marker (k + length g)))) now last before first → H last
    among moments failed = ⊎_elim
        (λ one. ⊎_elim
        (λ step. let p : Pending last R = closed_failed R now last before first (do_calls ls) (pending Text steps old new fresh leads few o now k g h (place k) none r.moments r.durable r.sound r.stands)
        (did Text steps old new fresh leads few o now k g h (place k) none r.moments r.durable r.sound r.stands).closed step in
        here last p.now.u p.now.comes p.now.stands p.sound moments)
        (λ synced. ⊎_elim (λ (f : FailedCall call.Sync d1 last before first). ⊎_elim (λ e. at_mid last d1 e refl sound_d1 moments) (λ e. at_mid last md e refl s_md moments) f.fate) (λ nothing. absurd nothing) synced)
        (split_failed (do_calls ls) (call.Sync ∷ []) now last before first one))
        (λ two. in_mark (subst (λ (x : History). FailedIn (mk ∷ call.Sync ∷ []) x last before first) is_md two))
        (split_failed (do_calls ls ++ call.Sync ∷ []) (mk ∷ call.Sync ∷ []) now last before first failed)
      where
        in_mark : FailedIn (mk ∷ call.Sync ∷ []) md last before first → H last
        in_mark (inl f) = ⊎_elim (λ e. at_mid last md e refl s_md moments) (λ e. at_marked last (Then md mk) e refl sound_mk moments) f.fate
        in_mark (inr (inl f)) = ⊎_elim (λ e. at_marked last (Then md mk) e refl sound_mk moments) (λ e. at_marked last (Then (Then md mk) call.Sync) e refl (sound_then call.Sync (Then md mk) sound_mk tt) moments) f.fate
        in_mark (inr (inr nothing)) = absurd nothing

    pub halted_group : FailedIn (group_calls k g) now last before first → H last
    halted_group failed =
        let moved : FailedIn (marked_calls ls (staged (at_marker k)) (staged (at_marker (k + length g)))) now last before first =
        subst (λ l. FailedIn (marked_calls l (staged (at_marker k)) (staged (at_marker (k + length g)))) now last before first) (sym (left_none g (place k))) failed in
        among (safe_failed o P now last before first (marked_calls ls (staged (at_marker k)) (staged (at_marker (k + length g)))) (safe_both Text steps old new fresh leads few o now k g h (place k) none r.moments r.durable r.sound r.stands) moved) moved

  -- a call among the groups failed
  pub halted : (gs : List (List Step)) (now : History) (k : ℕ) (last : History) (before : FileTree) (first : CallName) → Remains steps old new fresh leads k gs → Ready Text steps old new fresh o now k
      → FailedIn (calls_from k gs) now last before first → Halted Text steps old new fresh o last
  halted [] now k last before first m r failed = absurd failed
  halted (g ∷ gs) now k last before first m r failed =
      let h = first_stretch steps old new fresh leads k g gs m in
      ⊎_elim (λ here. (halted_group now k g h r last before first here).0)
      (λ later. halted gs (then_all now (group_calls k g)) (k + length g) last before first (remains_next steps old new fresh leads k g gs m) (one_group Text steps old new fresh leads few o now k g h r).ready later)
      (split_failed (group_calls k g) (calls_from (k + length g) gs) now last before first failed)

  -- a call of one group failed
  pub halted_in : (front gs : List (List Step)) (g : List Step) (now : History) (k : ℕ) (last : History) (before : FileTree) (first : CallName) → Remains steps old new fresh leads k (front ++ g ∷ gs) → Ready Text steps old new fresh o now k
      → (n : ℕ) → n ≡ k + length (joined front) → FailedIn (group_calls n g) (then_all now (calls_from k front)) last before first
      → (h : Halted Text steps old new fresh o last) × ((h.m ≡ n) ⊎ (h.m ≡ n + length g))
  halted_in [] gs g now k last before first m r n is failed =
      let e : n ≡ k = omega arith in
      subst (λ x. (h : Halted Text steps old new fresh o last) × ((h.m ≡ x) ⊎ (h.m ≡ x + length g))) (sym e)
      (halted_group now k g (first_stretch steps old new fresh leads k g gs m) r last before first (subst (λ x. FailedIn (group_calls x g) now last before first) e failed))
  halted_in (f ∷ front) gs g now k last before first m r n is failed =
      let count = length-append f (joined front) in
      let e : n ≡ k + length f + length (joined front) = omega arith in
      halted_in front gs g (then_all now (group_calls k f)) (k + length f) last before first (remains_next steps old new fresh leads k f (front ++ g ∷ gs) m)
      (one_group Text steps old new fresh leads few o now k f (first_stretch steps old new fresh leads k f (front ++ g ∷ gs) m) r).ready n e
      (subst (λ (x : History). FailedIn (group_calls n g) x last before first) (then_all-append now (group_calls k f) (calls_from (k + length f) front)) failed)

  -- The first call of the way back, a sync: what `ReturnLemmas` asks for.
  module _ (now : History) (h : Halted Text steps old new fresh o now) where
    pub settled_moments : LeavesOnly o (Then now call.Sync) P
    settled_moments = goes_on-sync o now P h.moments (forward leads.leads h.m h.u h.le h.comes h.stands)

    pub settled_durable : IsDurable (Then now call.Sync)
    settled_durable = durable-sync now
