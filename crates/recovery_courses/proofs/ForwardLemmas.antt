-- The steps that looks tell are left are done, part by part.
use Rattle.std.proofs.Common.{◌≡◌, ⊎_elim, ℕ, ◌+◌, ◌≤◌, ◌<◌, ◌^◌, nat_lt, List, [], ◌∷◌, ◌++◌, length, take, sym, ◌∙◌, ap, subst, arith, append_assoc}
use Rattle.std.proofs.lemmas.Bool.{cases_Bool, cond-true, cond-false, ltb-true, ltb-false}
use Rattle.commit_calls.specs.Parts.{synced_rename_calls}
use Rattle.commit_states.proofs.LoopLemmas.{Ready, ready_next, safe_both}
use Rattle.commit_states.specs.Calls.{do_calls, marked_calls}
use Rattle.commit_states.specs.Interrupted.{StandsAs, IsInterruptedBy}
use Rattle.commit_steps.specs.declared.step.Step.{Step}
use Rattle.commit_steps.specs.Staging.{staged, at_marker}
use Rattle.recovery_courses.proofs.CourseLemmas.{Goes, goes_these, goes_told, goes_then}
use Rattle.recovery_courses.specs.Parts.{redone_part, redone_parts, parts_behind}
use Rattle.step_looks.proofs.LeftLemmas.{tells_all}
use Rattle.step_looks.specs.Redoing.{to_redo, strange_redo}
use Rattle.step_trees.proofs.ChoiceLemmas.{none_done}
use Rattle.step_trees.proofs.LeadLemmas.{Led, entries_at}
use Rattle.step_trees.proofs.NameLemmas.{own-at}
use Rattle.step_trees.proofs.PlaceLemmas.{Inside, Remains, Stretch, end_behind, first_stretch, inside_at, remains_next}
use Rattle.step_trees.specs.Groups.{groups, to_next_cut, whole_behind, ComesBySome, left_of}
use Rattle.step_trees.specs.Leads.{start}
use Rattle.step_trees.specs.Steps.{after}
use Rattle.tree_core.specs.declared.node.Change.{Change}
use Rattle.tree_core.specs.declared.node.Change.TheVariants as call
use Rattle.tree_core.specs.declared.node.Node.{Node}
use Rattle.tree_core.specs.FileTree.{FileTree}
use Rattle.tree_core.specs.History.{History, IsDurable, IsSound, LeavesOnly, current_tree}
use Rattle.tree_core.specs.Runs.{then_all}
use Rattle.tree_core.proofs.Runs.{IsSafe}

module _ (Text : List ℕ → Type 0) (steps : List Step) (old new : FileTree) (fresh : List Node) (leads : Led steps old new fresh) (few : length steps < 2 ^ 32) (o : History) where
  abbrev P : FileTree → Type 0
  P = IsInterruptedBy Text steps old new fresh

  abbrev place : ℕ → FileTree
  place k = after (take k steps) (start old fresh)

  abbrev R : ℕ → History → Type 0
  R k h = Ready Text steps old new fresh o h k

  part_goes : (h : History) (k : ℕ) (g : List Step) (st : Stretch steps old new fresh leads k g) (u : FileTree) (comes : ComesBySome g (place k) u)
      → LeavesOnly o h P → IsDurable h → IsSound h → StandsAs Text (at_marker k) u (current_tree h) → Goes o P (R (k + length g)) h (redone_part k g h)
  part_goes h k g st u comes moments durable sound s =
      let t = current_tree h in
      let told = tells_all (at_marker k) (own-at k) g (place k) u t sound.tree (entries_at steps old new fresh leads k).tree st.free comes s.bare_is in
      let m = staged (at_marker k) in
      let n = staged (at_marker (k + length g)) in
      let left = left_of g (place k) u comes in
      let same : marked_calls left m n ≡ do_calls (to_redo g t) ++ synced_rename_calls m n =
      append_assoc (do_calls left) (call.Sync ∷ []) (call.Rename m n ∷ call.Sync ∷ []) ∙ ap (λ (l : List Step). do_calls l ++ synced_rename_calls m n) (sym told.redo) in
      goes_told o P (R (k + length g)) h (do_calls (to_redo g t)) (strange_redo k g t) (synced_rename_calls m n) (told.redo_strange k)
      (subst (IsSafe o P h) same (safe_both Text steps old new fresh leads few o h k g st u comes moments durable sound s))
      (subst (λ (cs : List Change). R (k + length g) (then_all h cs)) same (ready_next Text steps old new fresh leads few o h k g st u comes moments durable sound s))

  -- whole groups from place k on
  parts_go : (gs : List (List Step)) (k : ℕ) (h : History) → Remains steps old new fresh leads k gs → R k h → Goes o P (R (length steps)) h (redone_parts k gs h)
  parts_go [] k h m r =
      let c = m.count in
      let e : k ≡ length steps = omega arith in
      goes_these o P (R (length steps)) h [] r.moments (subst (λ n. R n h) e r)
  parts_go (g ∷ gs) k h m r =
      goes_then o P (R (k + length g)) (R (length steps)) h (redone_part k g h) (redone_parts (k + length g) gs)
      (part_goes h k g (first_stretch steps old new fresh leads k g gs m) (place k) (none_done g (place k)) r.moments r.durable r.sound r.stands)
      (λ next. parts_go gs (k + length g) (then_all h (redone_part k g h).calls) (remains_next steps old new fresh leads k g gs m) next)

  module _ (h : History) (m : ℕ) (u : FileTree) (le : m ≤ length steps) (comes : ComesBySome (to_next_cut m (groups steps)) (place m) u)
      (moments : LeavesOnly o h P) (durable : IsDurable h) (sound : IsSound h) (s : StandsAs Text (at_marker m) u (current_tree h)) where
    abbrev Steps : List (List Step) → Type 0
    Steps parts = Goes o P (R (length steps)) h (redone_parts m parts h)

    inside : m < length steps → Inside steps old new fresh leads m → Steps (to_next_cut m (groups steps) ∷ whole_behind m (groups steps))
    inside lt i =
        let g = to_next_cut m (groups steps) in
        let st : Stretch steps old new fresh leads m g = subst (Stretch steps old new fresh leads m) (sym i.stretch.is) i.stretch in
        let rest : Remains steps old new fresh leads (m + length g) (whole_behind m (groups steps)) =
        subst (λ (l : List Step). Remains steps old new fresh leads (m + length l) (whole_behind m (groups steps))) (sym i.stretch.is)
        (subst (Remains steps old new fresh leads (m + length i.g)) (sym i.behind_is) i.rest) in
        goes_then o P (R (m + length g)) (R (length steps)) h (redone_part m g h) (redone_parts (m + length g) (whole_behind m (groups steps)))
        (part_goes h m g st u comes moments durable sound s)
        (λ next. parts_go (whole_behind m (groups steps)) (m + length g) (then_all h (redone_part m g h).calls) rest next)

    at_end : m ≡ length steps → Steps []
    at_end is =
        let none : to_next_cut m (groups steps) ≡ [] = ap (λ n. to_next_cut n (groups steps)) is ∙ end_behind steps old new fresh leads in
        let u_is : u ≡ place m = subst (λ (l : List Step). ComesBySome l (place m) u) none comes in
        goes_these o P (R (length steps)) h [] moments record {
          moments = moments;
          durable = durable;
          sound = sound;
          stands = subst (λ n. StandsAs Text (at_marker n) (place n) (current_tree h)) is (subst (λ v. StandsAs Text (at_marker m) v (current_tree h)) u_is s);
        }

    -- from `at-m` on, all steps
    pub steps_go : Steps (parts_behind steps m)
    steps_go =
        let parts = to_next_cut m (groups steps) ∷ whole_behind m (groups steps) in
        ⊎_elim
        (λ short. let lt = ltb-true m (length steps) short in subst Steps (sym (cond-true (nat_lt m (length steps)) parts [] short)) (inside lt (inside_at steps old new fresh leads m lt)))
        (λ long. let past = ltb-false m (length steps) long in subst Steps (sym (cond-false (nat_lt m (length steps)) parts [] long)) (at_end (omega arith)))
        (cases_Bool (nat_lt m (length steps)))
