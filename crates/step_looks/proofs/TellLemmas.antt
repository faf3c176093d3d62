-- What looks tell of a tree in which a journal and a marker stand.
use Rattle.std.proofs.Common.{◌≡◌, ◌↔◌, inl, inr, ⊎_elim, ℕ, zero, suc, ◌+◌, ◌≤◌, Bool, true, false, ◌||◌, List, [], ◌∷◌, length, refl, sym, ◌∙◌, ap, subst, arith, Option, Some, is_some, IsTrue}
use Rattle.std.specs.Option.{option_map}
use Rattle.std.specs.List.{AllByRecursion}
use Rattle.std.specs.FinMap.{get}
use Rattle.dired_text.specs.Paths.{Names, parent}
use Rattle.tree_core.specs.declared.node.Node.{Node}
use Rattle.tree_core.specs.FileTree.{FileTree, IsTree, CanDo, done, has_mode_node, is_dir_node, mode_of}
use Rattle.tree_core.specs.Fields.{names_in}
use Rattle.tree_core.specs.History.{is_write}
use Rattle.tree_core.proofs.NameLemmas.{names_end}
use Rattle.tree_core.proofs.Sound.{tree_kept}
use Rattle.commit_steps.specs.declared.step.Step.{Step}
use Rattle.commit_steps.specs.declared.step.Step.TheVariants.{MakeDir, Rename, Mode}
use Rattle.commit_steps.specs.Staging.{staged, plan}
use Rattle.commit_steps.specs.Steps.{HasPaths}
use Rattle.step_trees.specs.Apart.{IsApartStep}
use Rattle.step_trees.specs.Entries.{without}
use Rattle.step_trees.specs.Groups.{groups, to_next_cut, from_last_cut, ComesBySome, taken_of}
use Rattle.step_trees.specs.Leads.{at_place, Leads}
use Rattle.step_trees.specs.Steps.{undo_of, step_done, after, IsStep, IsBefore, IsAfter}
use Rattle.step_trees.proofs.NameLemmas.{IsOwn, own-plan, own-at, own-back}
use Rattle.step_trees.proofs.StepLemmas.{apart_lawful, same_stood, absent_stood, dir_stood}
use Rattle.step_trees.proofs.UndoLemmas.{can_undo, undone_step}
use Rattle.step_trees.proofs.UndoneLemmas.{clear_undo, clear_undo-without, undo-without, undo_stood}
use Rattle.step_trees.proofs.GroupLemmas.{Free, Joins, joins, without_step, tree_joins, stays_before, stays_after, after_own, tree_step, free_next}
use Rattle.step_trees.proofs.ChoiceLemmas.{taken_is, free_taken, not_both}
use Rattle.step_trees.proofs.LeadLemmas.{Led, led, entries_at}
use Rattle.step_trees.proofs.LawLemmas.{free_at}
use Rattle.step_trees.proofs.PlaceLemmas.{cut_at, from_last_cut-zero}
use Rattle.commit_states.proofs.StandLemmas.{before_bare}
use Rattle.commit_states.specs.Interrupted.{bare}
use Rattle.step_looks.specs.Looks.{is_before, is_after, can_go_back, is_none_of}
use Rattle.step_looks.specs.Undoing.{undone, and_where, to_undo, any_goes_back}
use Rattle.step_looks.specs.Laws.{CanGoBack, IsMarker, IsBare, holds_some, TellsDone}
use Rattle.step_looks.proofs.TestLemmas.{and_true, both_true, before_is, before_tests, after_is, after_tests, back_is_after, none_of}

-- ---- the tests

pub back_is : (s : Step) (t : FileTree) → IsTrue (can_go_back s t) → CanGoBack s t
back_is (MakeDir p) t e = let b = and_true (is_dir_node (get t p)) (is_none_of (names_in t p)) e in (b.0, (names_end t p).0 (none_of (names_in t p) b.1))
back_is (Rename from to) t e = after_is (Rename from to) t e
back_is (Mode p old new) t e = after_is (Mode p old new) t e

pub back_tests : (s : Step) (t : FileTree) → CanGoBack s t → IsTrue (can_go_back s t)
back_tests (MakeDir p) t b = both_true (is_dir_node (get t p)) (is_none_of (names_in t p)) b.0 (ap is_none_of ((names_end t p).1 b.1))
back_tests (Rename from to) t b = after_tests (Rename from to) t b
back_tests (Mode p old new) t b = after_tests (Mode p old new) t b

pub tests_are_right : (s : Step) (t : FileTree) → (IsTrue (is_before s t) ↔ IsBefore s t) × ((IsTrue (is_after s t) ↔ IsAfter s t) × (IsTrue (can_go_back s t) ↔ CanGoBack s t))
tests_are_right s t = ((before_is s t, before_tests s t), ((after_is s t, after_tests s t), (back_is s t, back_tests s t)))

after_back : (s : Step) (t : FileTree) → IsAfter s t → CanDo (undo_of s) t → CanGoBack s t
after_back (MakeDir p) t behind can = (can.0, can.2)
after_back (Rename from to) t behind can = behind
after_back (Mode p old new) t behind can = behind

no_back : (s : Step) (t : FileTree) → IsStep s → IsBefore s t → can_go_back s t ≡ false
no_back s t lawful before = by_test (can_go_back s t) refl
  where
    by_test : (b : Bool) → can_go_back s t ≡ b → can_go_back s t ≡ false
    by_test false e = e
    by_test true e = absurd (not_both s t lawful before (back_is_after s t e))

-- ---- in the tree with a path that the step does not name

after_stood : (p : Names) (s : Step) (t : FileTree) → IsApartStep p s → IsAfter s (without p t) → IsAfter s t
after_stood p (MakeDir q) t apart behind = dir_stood p t q behind
after_stood p (Rename from to) t apart behind = (
  absent_stood p t from apart.0 behind.0,
  subst (λ (o : Option Node). IsTrue (is_some o)) (sym (same_stood p t to apart.1)) behind.1,
  dir_stood p t (parent from) behind.2,
)
after_stood p (Mode q old new) t apart behind = subst (λ (o : Option Node). IsTrue (has_mode_node o) × (option_map mode_of o ≡ Some new)) (sym (same_stood p t q apart)) behind

undo_no_write : (s : Step) → is_write (undo_of s) ≡ false
undo_no_write (MakeDir q) = refl
undo_no_write (Rename from to) = refl
undo_no_write (Mode q old new) = refl

module _ (marker : List ℕ) (own : IsOwn marker) where
  can_bare : (s : Step) (t : FileTree) → IsStep s → CanDo (undo_of s) (bare plan marker t) → CanDo (undo_of s) t
  can_bare s t lawful can = undo_stood marker s t own lawful (undo_stood plan s (without (staged marker) t) own-plan lawful can)

  pub after_bare : (s : Step) (t : FileTree) → IsStep s → IsAfter s (bare plan marker t) → IsAfter s t
  after_bare s t lawful behind =
      after_stood (staged marker) s t (apart_lawful marker s own lawful) (after_stood (staged plan) s (without (staged marker) t) (apart_lawful plan s own-plan lawful) behind)

  -- before in u, or after and such as can be undone
  not_told : (s : Step) (u t : FileTree) → IsStep s → bare plan marker t ≡ u → IsBefore s u → can_go_back s t ≡ false
  not_told s u t lawful is before = no_back s t lawful (before_bare plan marker s t own-plan own lawful (subst (IsBefore s) (sym is) before))

  pub told : (s : Step) (u t : FileTree) → IsStep s → bare plan marker t ≡ u → IsAfter s u → CanDo (undo_of s) u → can_go_back s t ≡ true
  told s u t lawful is behind can =
      back_tests s t (after_back s t (after_bare s t lawful (subst (IsAfter s) (sym is) behind)) (can_bare s t lawful (subst (CanDo (undo_of s)) (sym is) can)))

  -- ---- these undone, b is left of u
  pub record Undid (l : List Step) (t b : FileTree) : Type 0 where
    pub tree : IsTree (undone l t)
    pub is : bare plan marker (undone l t) ≡ b

  pub undid : (l : List Step) (t b : FileTree) → IsTree t → IsTree b → Free l b → bare plan marker t ≡ after l b → Undid l t b
  undid [] t b tree tree_b free is = record { tree = tree; is = is }
  undid (x ∷ l) t b tree tree_b free is =
      let more = undid l t (step_done x b) tree (tree_step x b tree_b free.0 free.1) (free_next x l b tree_b free) is in
      let v = undone l t in
      let can : CanDo (undo_of x) v = can_bare x v free.0 (subst (CanDo (undo_of x)) (sym more.is) (can_undo x b tree_b free.0 free.1)) in
      let clear = clear_undo x v more.tree can in
      record {
        tree = tree_kept (undo_of x) v 0 (undo_no_write x) more.tree can;
        is =
            ap (without (staged plan)) (undo-without (staged marker) x 0 v (apart_lawful marker x own free.0) clear)
            ∙ undo-without (staged plan) x 0 (without (staged marker) v) (apart_lawful plan x own-plan free.0) (clear_undo-without (staged marker) x v clear)
            ∙ ap (done (undo_of x) 0) more.is
            ∙ undone_step x 0 b tree_b free.0 free.1;
      }

  told_undo : (g : List Step) (a u t : FileTree) → IsTree t → IsTree a → Free g a → (some : ComesBySome g a u) → bare plan marker t ≡ u → to_undo g t ≡ taken_of g a u some
  told_undo [] a u t tree tree_a free some is = refl
  told_undo (s ∷ g) a u t tree tree_a free (inl left) is =
      let later = told_undo g a u t tree tree_a free.3 left is in
      let d = undid (taken_of g a u left) t a tree tree_a (free_taken g a a u free.3 left) (is ∙ taken_is g a u left) in
      let no_is : can_go_back s (undone (to_undo g t) t) ≡ false = ap (λ (l : List Step). can_go_back s (undone l t)) later ∙ not_told s a (undone (taken_of g a u left) t) free.0 d.is free.1 in
      ap (λ b. and_where b s (to_undo g t)) no_is ∙ later
  told_undo (s ∷ g) a u t tree tree_a free (inr taken) is =
      let b = step_done s a in
      let tree_b = tree_step s a tree_a free.0 free.1 in
      let free_b = free_next s g a tree_a free in
      let later = told_undo g b u t tree tree_b free_b taken is in
      let d = undid (taken_of g b u taken) t b tree tree_b (free_taken g b b u free_b taken) (is ∙ taken_is g b u taken) in
      let yes_is : can_go_back s (undone (to_undo g t) t) ≡ true = ap (λ (l : List Step). can_go_back s (undone l t)) later ∙ told s b (undone (taken_of g b u taken) t) free.0 d.is (after_own s a tree_a free.0 free.1) (can_undo s a tree_a free.0 free.1) in
      ap (λ b. and_where b s (to_undo g t)) yes_is ∙ ap (λ (l : List Step). s ∷ l) later

  -- a step of the group that was done can be undone, whatever others were done
  pub can_taken : (s : Step) (g : List Step) (a u : FileTree) → Joins s g a → ComesBySome g (step_done s a) u → CanDo (undo_of s) u
  can_taken s g a u j taken =
      let w = without_step s g a u j taken in
      subst (CanDo (undo_of s)) (sym w.is) (can_undo s w.from (tree_joins s g a w.from j w.comes) j.lawful (stays_before s g a w.from j w.comes))

  told_any : (g : List Step) (a u t : FileTree) → IsTree a → Free g a → (some : ComesBySome g a u) → bare plan marker t ≡ u → any_goes_back g t ≡ holds_some (taken_of g a u some)
  told_any [] a u t tree_a free some is = refl
  told_any (s ∷ g) a u t tree_a free (inl left) is =
      ap (λ b. b || any_goes_back g t) (not_told s u t free.0 is (stays_before s g a u (joins s g a tree_a free) left)) ∙ told_any g a u t tree_a free.3 left is
  told_any (s ∷ g) a u t tree_a free (inr taken) is =
      let j = joins s g a tree_a free in
      ap (λ b. b || any_goes_back g t) (told s u t free.0 is (stays_after s g a u j taken) (can_taken s g a u j taken))

  pub tells : (g : List Step) (a u t : FileTree) → IsTree t → IsTree a → Free g a → (some : ComesBySome g a u) → bare plan marker t ≡ u → TellsDone g a u t some
  tells g a u t tree tree_a free some is = record { undo = told_undo g a u t tree tree_a free some is; any = told_any g a u t tree_a free some is }

pub own_marker : (marker : List ℕ) → IsMarker marker → IsOwn marker
own_marker marker named = ⊎_elim (λ e. subst IsOwn (sym e) (own-at named.0)) (λ e. subst IsOwn (sym e) (own-back named.0)) named.1

module _ (steps : List Step) (old new : FileTree) (fresh : List Node) (leads : Leads steps old new fresh) (paths : AllByRecursion HasPaths steps) where
  pub all_led : Led steps old new fresh
  all_led = led steps old new fresh leads paths

  pub looks_tell : (m : ℕ) → m ≤ length steps → (marker : List ℕ) (u t : FileTree) (some : ComesBySome (to_next_cut m (groups steps)) (at_place steps old fresh m) u) → IsBare marker u t
      → TellsDone (to_next_cut m (groups steps)) (at_place steps old fresh m) u t some
  looks_tell m le marker u t some b =
      tells marker (own_marker marker b.marker_named) (to_next_cut m (groups steps)) (at_place steps old fresh m) u t b.tree (entries_at steps old new fresh all_led m).tree (free_at steps old new fresh all_led m le) some b.is

  pub free_cut : (k m : ℕ) → m ≤ length steps → m ≡ k + length (from_last_cut m (groups steps)) → Free (from_last_cut m (groups steps)) (at_place steps old fresh k)
  free_cut k zero le is = subst (λ l. Free l (at_place steps old fresh k)) (sym (from_last_cut-zero (groups steps))) tt
  free_cut k (suc m) le is = (cut_at steps old new fresh all_led k (suc m) (omega arith) le is).back.free

  pub looks_tell_back : (k m : ℕ) → m ≤ length steps → m ≡ k + length (from_last_cut m (groups steps))
      → (marker : List ℕ) (u t : FileTree) (some : ComesBySome (from_last_cut m (groups steps)) (at_place steps old fresh k) u) → IsBare marker u t
      → TellsDone (from_last_cut m (groups steps)) (at_place steps old fresh k) u t some
  looks_tell_back k m le is marker u t some b =
      tells marker (own_marker marker b.marker_named) (from_last_cut m (groups steps)) (at_place steps old fresh k) u t b.tree (entries_at steps old new fresh all_led k).tree (free_cut k m le is) some b.is
