-- The laws of steps, put together.
use Rattle.std.proofs.Common.{◌≡◌, inl, inr, ⊎_elim, ◌↔◌, ℕ, zero, suc, ◌<◌, ◌≤◌, nat_lt, List, [], ◌∷◌, length, take, get_or, refl, sym, ◌∙◌, ap, subst, arith}
use Rattle.std.proofs.lemmas.Bool.{cases_Bool, ltb-true, ltb-false}
use Rattle.std.specs.List.{AllByRecursion}
use Rattle.tree_core.specs.declared.node.Node.{Node}
use Rattle.tree_core.specs.FileTree.{FileTree, IsTree, CanDo, done}
use Rattle.commit_steps.specs.declared.step.Step.{Step}
use Rattle.commit_steps.specs.Steps.{IsLawfulStep}
use Rattle.step_trees.specs.Apart.{AreApart}
use Rattle.step_trees.specs.Steps.{IsStep, call_of, undo_of, step_done, after, IsBefore, IsAfter}
use Rattle.step_trees.specs.Groups.{groups, to_next_cut, ComesBySome, left_of, taken_of}
use Rattle.step_trees.specs.Leads.{start, HoldsEntries, Ends, LeadsFrom, Leads, SetOther}
use Rattle.step_trees.specs.Laws.{LeadsByPlaces, LooksTell}
use Rattle.step_trees.proofs.StepLemmas.{can_step}
use Rattle.step_trees.proofs.UndoLemmas.{can_undo, undone_step}
use Rattle.step_trees.proofs.LeadLemmas.{Led, entries_at}
use Rattle.step_trees.proofs.CommuteLemmas.{commute}
use Rattle.step_trees.proofs.GroupLemmas.{apart_other, before_there, before_back, after_there, after_back, clear_before, after_own, Free, IsOf}
use Rattle.step_trees.proofs.ChoiceLemmas.{after_left, look_left, look_taken, not_both, of_left, of_taken}
use Rattle.step_trees.proofs.PlaceLemmas.{inside_at, end_behind}

pub done_then : (s : Step) (t : FileTree) → IsTree t → IsStep s → IsBefore s t → CanDo (call_of s) t × IsAfter s (step_done s t)
done_then s t tree is before = (can_step s t is before, after_own s t tree is before)

pub undone_then : (s : Step) (t : FileTree) → IsTree t → IsStep s → IsBefore s t → CanDo (undo_of s) (step_done s t) × (done (undo_of s) 0 (step_done s t) ≡ t)
undone_then s t tree is before = (can_undo s t tree is before, undone_step s 0 t tree is before)

pub exchanged : (s u : Step) (t : FileTree) → IsTree t → AreApart s u → SetOther t s u → IsBefore s t → IsBefore u t → step_done u (step_done s t) ≡ step_done s (step_done u t)
exchanged s u t tree apart other before also = commute s u t (clear_before s t tree before) (clear_before u t tree also) apart other

pub looks_kept : (s u : Step) (t : FileTree) → IsTree t → AreApart s u → SetOther t s u → IsBefore s t
    → (IsBefore u t ↔ IsBefore u (step_done s t)) × (IsAfter u t ↔ IsAfter u (step_done s t))
looks_kept s u t tree apart other before =
    let clear = clear_before s t tree before in
    let turned = apart_other s u apart in (
      (before_there s t clear u turned other, before_back s t clear u turned other),
      (after_there s t clear u turned other, after_back s t clear u turned other),
    )

module _ (steps : List Step) (old new : FileTree) (fresh : List Node) (leads : Leads steps old new fresh) where
  going : (t : FileTree) (steps : List Step) (k : ℕ) (step : Step) → LeadsFrom t steps new → k < length steps → step ≡ get_or steps k step
      → IsLawfulStep step × IsBefore step (after (take k steps) t)
  going t [] k step from within is = absurd (omega arith)
  going t (s ∷ steps) zero step from within is = subst (λ x. IsLawfulStep x × IsBefore x t) (sym is) (from.1, from.2)
  going t (s ∷ steps) (suc k) step from within is = going (step_done s t) steps k step from.3 (omega arith) is

  holding : (t : FileTree) (steps : List Step) (k : ℕ) → LeadsFrom t steps new → HoldsEntries (after (take k steps) t)
  holding t [] zero from = from.0
  holding t [] (suc k) from = from.0
  holding t (s ∷ steps) zero from = from.0
  holding t (s ∷ steps) (suc k) from = holding (step_done s t) steps k from.3

  ending : (t : FileTree) (steps : List Step) → LeadsFrom t steps new → Ends new (after steps t)
  ending t [] from = from.1
  ending t (s ∷ steps) from = ending (step_done s t) steps from.3

  pub by_places : LeadsByPlaces steps old new fresh
  by_places = record {
    each = λ k step within is. let g = going (start old fresh) steps k step leads.from within is in record { lawful = g.0; before = g.1 };
    holds = λ k. holding (start old fresh) steps k leads.from;
    ends = ending (start old fresh) steps leads.from;
  }

-- ---- what looks tell

all_of : (P : Step → Type 0) (l : List Step) → ((s : Step) → IsOf s l → P s) → AllByRecursion P l
all_of P [] each = tt
all_of P (s ∷ l) each = (each s (inl refl), all_of P l (λ u of. each u (inr of)))

is_step : (s : Step) (g : List Step) (t : FileTree) → Free g t → IsOf s g → IsStep s
is_step s [] t free of = absurd of
is_step s (u ∷ g) t free (inl same) = subst IsStep (sym same) free.0
is_step s (u ∷ g) t free (inr more) = is_step s g t free.3 more

looks_of : (g : List Step) (t c : FileTree) → IsTree t → Free g t → (some : ComesBySome g t c) → LooksTell g t c some
looks_of g t c tree free some = record {
  left = all_of (λ s. IsBefore s c × (IsAfter s c → ⊥)) (left_of g t c some) (λ s of.
      let before = look_left g t c tree free some s of in
      (before, not_both s c (is_step s g t free (of_left g t c some s of)) before));
  taken = all_of (λ s. IsAfter s c × (IsBefore s c → ⊥)) (taken_of g t c some) (λ s of.
      let behind = look_taken g t c tree free some s of in
      (behind, λ before. not_both s c (is_step s g t free (of_taken g t c some s of)) before behind));
  whole = after_left g t c tree free some;
}

module _ (steps : List Step) (old new : FileTree) (fresh : List Node) (leads : Led steps old new fresh) where
  -- the steps from a place to the next cut are a group, or a part of one
  pub free_at : (m : ℕ) → m ≤ length steps → Free (to_next_cut m (groups steps)) (after (take m steps) (start old fresh))
  free_at m le = ⊎_elim
      (λ short. let s = inside_at steps old new fresh leads m (ltb-true m (length steps) short) in
      subst (λ l. Free l (after (take m steps) (start old fresh))) (sym s.stretch.is) s.stretch.free)
      (λ long. let past = ltb-false m (length steps) long in
      let m_is : length steps ≡ m = omega arith in
      let none : to_next_cut m (groups steps) ≡ [] = ap (λ n. to_next_cut n (groups steps)) (sym m_is) ∙ end_behind steps old new fresh leads in
      subst (λ l. Free l (after (take m steps) (start old fresh))) (sym none) tt)
      (cases_Bool (nat_lt m (length steps)))

  pub looks_at : (m : ℕ) → m ≤ length steps → (c : FileTree) (some : ComesBySome (to_next_cut m (groups steps)) (after (take m steps) (start old fresh)) c)
      → LooksTell (to_next_cut m (groups steps)) (after (take m steps) (start old fresh)) c some
  looks_at m le c some = looks_of (to_next_cut m (groups steps)) (after (take m steps) (start old fresh)) c (entries_at steps old new fresh leads m).tree (free_at m le) some
