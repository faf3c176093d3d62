-- The steps that looks tell were done are undone, part by part, the last one first.
use Rattle.std.proofs.Common.{◌≡◌, ◌⊎◌, inl, inr, ⊎_elim, ℕ, zero, suc, ◌+◌, ◌-◌, ◌==◌, ◌≤◌, ◌<◌, ◌^◌, Bool, false, List, [], ◌∷◌, ◌++◌, length, take, reverse, refl, sym, ◌∙◌, ap, subst, arith, append_assoc, length-append, if◌then◌else◌}
use Rattle.std.proofs.lemmas.Bool.{cond-true, cond-false, eq-eqb, ne_eqb}
use Rattle.commit_calls.specs.Parts.{synced_rename_calls}
use Rattle.commit_states.proofs.BackLemmas.{Returning, returning_next, safe_both}
use Rattle.commit_states.proofs.ReturnLemmas.{Turned, turn}
use Rattle.commit_states.specs.Calls.{CleansItems, fresh_items, turn_calls, turn_place, undo_calls, unmarked_calls}
use Rattle.commit_states.specs.Interrupted.{StandsAs, StandsAfter, IsInterruptedBy}
use Rattle.commit_steps.specs.declared.step.Step.{Step}
use Rattle.commit_steps.specs.Staging.{staging, staged, at_marker, back_marker}
use Rattle.recovery_courses.proofs.CourseLemmas.{Goes, goes_these, goes_told, goes_looked, goes_then}
use Rattle.recovery_courses.specs.Course.{Course, these, and_then}
use Rattle.recovery_courses.specs.Parts.{undone_part, undone_parts, undone_from, turning_place, turned_at, turned_from}
use Rattle.step_looks.proofs.LeftLemmas.{tells_all}
use Rattle.step_looks.proofs.TellLemmas.{tells}
use Rattle.step_looks.specs.Laws.{holds_some}
use Rattle.step_looks.specs.Strictly.{to_undo_strictly, strange_back, strange_look}
use Rattle.step_trees.proofs.ChoiceLemmas.{all_done}
use Rattle.step_trees.proofs.GroupLemmas.{Free}
use Rattle.step_trees.proofs.LawLemmas.{free_at}
use Rattle.step_trees.proofs.LeadLemmas.{Led, entries_at}
use Rattle.step_trees.proofs.NameLemmas.{own-at, own-back}
use Rattle.step_trees.proofs.PlaceLemmas.{AllBack, Back, Cut, cut_at, from_last_cut-zero}
use Rattle.step_trees.specs.Groups.{groups, joined, to_next_cut, from_last_cut, whole_before, ComesBySome, taken_of}
use Rattle.step_trees.specs.Leads.{start}
use Rattle.step_trees.specs.Steps.{after}
use Rattle.tree_core.specs.declared.changes.Fresh.{Fresh}
use Rattle.tree_core.specs.declared.node.Change.{Change}
use Rattle.tree_core.specs.declared.node.Change.TheVariants as call
use Rattle.tree_core.specs.declared.node.Node.{Node}
use Rattle.tree_core.specs.FileTree.{FileTree, IsAbsent, IsTree}
use Rattle.tree_core.specs.History.{History, Then, IsDurable, IsSound, LeavesOnly, current_tree}
use Rattle.tree_core.specs.Runs.{then_all}
use Rattle.tree_core.proofs.Moments.{durable-sync}
use Rattle.tree_core.proofs.Runs.{IsSafe, safe_all, safe_can, sound_all}

module _ (Text : List ℕ → Type 0) (steps : List Step) (old new : FileTree) (fresh : List Node) (leads : Led steps old new fresh) (few : length steps < 2 ^ 32) (o : History) where
  abbrev P : FileTree → Type 0
  P = IsInterruptedBy Text steps old new fresh

  abbrev place : ℕ → FileTree
  place k = after (take k steps) (start old fresh)

  abbrev B : ℕ → History → Type 0
  B k h = Returning Text steps old new fresh o h k

  part_back : (h : History) (k : ℕ) (g : List Step) (b : Back steps old new fresh leads k g) (u : FileTree) (comes : ComesBySome g (place k) u)
      → LeavesOnly o h P → IsDurable h → IsSound h → StandsAs Text (back_marker (k + length g)) u (current_tree h) → Goes o P (B k) h (undone_part k g h)
  part_back h k g b u comes moments durable sound s =
      let t = current_tree h in
      let told = tells_all (back_marker (k + length g)) (own-back (k + length g)) g (place k) u t sound.tree (entries_at steps old new fresh leads k).tree b.free comes s.bare_is in
      let m = staged (back_marker (k + length g)) in
      let n = staged (back_marker k) in
      let taken = taken_of g (place k) u comes in
      let same : unmarked_calls taken m n ≡ undo_calls (to_undo_strictly (reverse g) t) ++ synced_rename_calls m n =
      append_assoc (undo_calls taken) (call.Sync ∷ []) (call.Rename m n ∷ call.Sync ∷ []) ∙ ap (λ (l : List Step). undo_calls l ++ synced_rename_calls m n) (sym told.undo) in
      goes_told o P (B k) h (undo_calls (to_undo_strictly (reverse g) t)) (strange_back k (reverse g) t) (synced_rename_calls m n) (told.undo_strange k)
      (subst (IsSafe o P h) same (safe_both Text steps old new fresh leads few o h k g b u comes moments durable sound s))
      (subst (λ (cs : List Change). B k (then_all h cs)) same (returning_next Text steps old new fresh leads few o h k g b u comes moments durable sound s))

  -- a whole group
  group_back : (h : History) (k : ℕ) (g : List Step) → Back steps old new fresh leads k g → B (k + length g) h → Goes o P (B k) h (undone_part k g h)
  group_back h k g b r =
      let s : StandsAs Text (back_marker (k + length g)) (after g (place k)) (current_tree h) = subst (λ v. StandsAs Text (back_marker (k + length g)) v (current_tree h)) b.more r.stands in
      part_back h k g b (after g (place k)) (all_done g (place k)) r.moments r.durable r.sound s

  parts_back : (gs : List (List Step)) (k : ℕ) (h : History) → AllBack steps old new fresh leads k gs → B (k + length (joined gs)) h → Goes o P (B k) h (undone_parts k gs h)
  parts_back [] k h all r = let e : k + 0 ≡ k = omega arith in goes_these o P (B k) h [] r.moments (subst (λ n. B n h) e r)
  parts_back (g ∷ gs) k h all r =
      let n = length-append g (joined gs) in
      let e : k + length (g ++ joined gs) ≡ k + length g + length (joined gs) = omega arith in
      goes_then o P (B (k + length g)) (B k) h (undone_parts (k + length g) gs h) (undone_part k g)
      (parts_back gs (k + length g) h all.1 (subst (λ n. B n h) e r))
      (λ next. group_back (then_all h (undone_parts (k + length g) gs h).calls) k g all.0 next)

  -- from `back-m` with any of the steps from the last cut to it done, to `back-0`
  module _ (h : History) (k m : ℕ) (u : FileTree) (le : m ≤ length steps) (cut : m ≡ k + length (from_last_cut m (groups steps))) (comes : ComesBySome (from_last_cut m (groups steps)) (place k) u)
      (moments : LeavesOnly o h P) (durable : IsDurable h) (sound : IsSound h) (s : StandsAs Text (back_marker m) u (current_tree h)) where
    abbrev g : List Step
    g = from_last_cut m (groups steps)

    abbrev at_cut : ℕ → Course
    at_cut n = and_then (undone_part n g h) h (undone_parts 0 (whole_before n (groups steps)))

    back_some : 0 < m → Goes o P (B 0) h (undone_from steps m h)
    back_some some =
        let c : Cut steps old new fresh leads k m = cut_at steps old new fresh leads k m some le cut in
        let s1 : StandsAs Text (back_marker (k + length g)) u (current_tree h) = subst (λ n. StandsAs Text (back_marker n) u (current_tree h)) cut s in
        let other : (m == 0) ≡ false = ne_eqb m 0 (λ same. absurd (omega arith)) in
        let k_is : m - length g ≡ k = omega arith in
        let is : undone_from steps m h ≡ at_cut k = cond-false (m == 0) (these []) (at_cut (m - length g)) other ∙ ap at_cut k_is in
        subst (Goes o P (B 0) h) (sym is)
        (goes_then o P (B k) (B 0) h (undone_part k g h) (undone_parts 0 (whole_before k (groups steps)))
        (part_back h k g c.back u comes moments durable sound s1)
        (λ next. parts_back (whole_before k (groups steps)) 0 (then_all h (undone_part k g h).calls) c.fronts (subst (λ n. B n (then_all h (undone_part k g h).calls)) c.count next)))

    back_none : m ≡ 0 → Goes o P (B 0) h (undone_from steps m h)
    back_none zero_is =
        let is : undone_from steps m h ≡ these [] = cond-true (m == 0) (these []) (at_cut (m - length g)) (eq-eqb m 0 zero_is) in
        let k_is : k ≡ 0 = omega arith in
        let none : g ≡ [] = ap (λ n. from_last_cut n (groups steps)) zero_is ∙ from_last_cut-zero (groups steps) in
        let u_is : u ≡ place k = subst (λ (l : List Step). ComesBySome l (place k) u) none comes in
        let stands : StandsAfter Text steps old fresh (back_marker 0) 0 (current_tree h) =
        subst (λ n. StandsAs Text (back_marker n) (place 0) (current_tree h)) zero_is (subst (λ v. StandsAs Text (back_marker m) v (current_tree h)) (u_is ∙ ap place k_is) s) in
        subst (Goes o P (B 0) h) (sym is) (goes_these o P (B 0) h [] moments record { moments = moments; durable = durable; sound = sound; stands = stands })

    pub steps_back : Goes o P (B 0) h (undone_from steps m h)
    steps_back = ⊎_elim (λ (e : m ≡ 0). back_none e) (λ (lt : 0 < m). back_some lt) (zero_or m)
      where
        zero_or : (n : ℕ) → (n ≡ 0) ⊎ (0 < n)
        zero_or zero = inl refl
        zero_or (suc n) = inr (omega arith)

  -- ---- the turn

  place_by : (m : ℕ) (taken : List Step) → (if holds_some taken then m + length (to_next_cut m (groups steps)) else m) ≡ turn_place steps m taken
  place_by m [] = refl
  place_by m (x ∷ taken) = refl

  -- from `at-m` with any of the steps to the next cut done, to `back-0`
  module _ (tree : IsTree old) (absent : IsAbsent old staging) (fs : List Fresh) (cleans : CleansItems (fresh_items 0 fs) (start old fresh))
      (h : History) (m : ℕ) (u : FileTree) (le : m ≤ length steps) (comes : ComesBySome (to_next_cut m (groups steps)) (place m) u)
      (moments : LeavesOnly o h P) (durable : IsDurable h) (sound : IsSound h) (s : StandsAs Text (at_marker m) u (current_tree h)) where
    abbrev ahead : List Step
    ahead = to_next_cut m (groups steps)

    abbrev taken_ahead : List Step
    taken_ahead = taken_of ahead (place m) u comes

    turns : Turned Text steps old new fresh leads few tree absent fs cleans o h m u taken_ahead
    turns = turn Text steps old new fresh leads few tree absent fs cleans o h m u moments durable sound s le comes

    free : Free ahead (place m)
    free = free_at steps old new fresh leads m le

    place_is : turning_place steps m (current_tree h) ≡ turns.j
    place_is =
        ap (λ (b : Bool). if b then m + length ahead else m) (tells (at_marker m) (own-at m) ahead (place m) u (current_tree h) sound.tree (entries_at steps old new fresh leads m).tree free comes s.bare_is).any
        ∙ place_by m taken_ahead ∙ sym turns.j_is

    turned_goes : Goes o P (B 0) h (turned_at steps m turns.j h)
    turned_goes =
        let cs = turn_calls m turns.j in
        let mid = then_all h cs in
        let sound_mid : IsSound mid = sound_all h cs sound (safe_can o P h cs turns.safe) in
        let later : Goes o P (B 0) mid (undone_from steps turns.j mid) =
        steps_back mid turns.k turns.j u turns.le turns.cut turns.comes (safe_all o P h cs turns.safe) (durable-sync (Then h (call.Rename (staged (at_marker m)) (staged (back_marker turns.j))))) sound_mid turns.stands in
        goes_then o P (λ x. Goes o P (B 0) x (undone_from steps turns.j x)) (B 0) h (these cs) (undone_from steps turns.j)
        (goes_these o P (λ x. Goes o P (B 0) x (undone_from steps turns.j x)) h cs turns.safe later)
        (λ next. next)

    pub turn_back : Goes o P (B 0) h (turned_from steps m h)
    turn_back =
        let told = tells_all (at_marker m) (own-at m) ahead (place m) u (current_tree h) sound.tree (entries_at steps old new fresh leads m).tree free comes s.bare_is in
        goes_looked o P (B 0) h (strange_look m ahead (current_tree h)) (turned_at steps m (turning_place steps m (current_tree h)) h) (told.look_strange m)
        (subst (λ n. Goes o P (B 0) h (turned_at steps m n h)) (sym place_is) turned_goes)
