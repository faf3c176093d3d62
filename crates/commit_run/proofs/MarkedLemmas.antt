-- What looks tell of the markers, and the lists of calls as the code makes them.
use Rattle.std.proofs.Common.{◌≡◌, ◌≢◌, ℕ, zero, suc, ◌+◌, ◌-◌, ◌==◌, ◌≤◌, ◌<◌, Bool, if◌then◌else◌, List, [], ◌∷◌, ◌++◌, length, sym, ◌∙◌, ap, arith, is_some}
use Rattle.std.specs.FinMap.{get}
use Rattle.std.proofs.lemmas.Bool.{cond-true, cond-false, eq-eqb, ne_eqb}
use Rattle.std.proofs.lemmas.List.{get_or_past}
use Rattle.commit_calls.specs.Cuts.{group_at}
use Rattle.commit_calls.specs.Parts.{synced_rename_calls}
use Rattle.commit_calls.proofs.RunLemmas.{unmarked_is}
use Rattle.commit_run.specs.WayBack.{at_cut, back_at_cut, marked_cut, turn_cut, turned_marker, undone_group, undone_groups}
use Rattle.commit_states.specs.Calls.{undo_calls, unmarked_calls}
use Rattle.commit_steps.specs.declared.step.Step.{Step}
use Rattle.dired_text.specs.Paths.{Names}
use Rattle.step_looks.specs.Undoing.{any_goes_back, to_undo}
use Rattle.step_trees.specs.Groups.{groups}
use Rattle.tree_core.specs.declared.node.Change.TheVariants as call
use Rattle.tree_core.specs.FileTree.{FileTree}
use Rattle.tree_core.specs.History.{History, current_tree}
use Rattle.tree_core.specs.Runs.{then_all}

module _ (steps : List Step) (k : ℕ) (t : FileTree) where
  abbrev looked : ℕ
  looked = if is_some (get t (at_cut steps k)) then k else k + 1

  pub marked_end : k ≡ length (groups steps) → k ≡ marked_cut steps k t
  marked_end is = sym (cond-true (k == length (groups steps)) k looked (eq-eqb k (length (groups steps)) is))

  pub marked_by : (b : Bool) → k ≢ length (groups steps) → is_some (get t (at_cut steps k)) ≡ b → (if b then k else k + 1) ≡ marked_cut steps k t
  marked_by b other is =
      ap (λ (x : Bool). if x then k else k + 1) (sym is)
      ∙ sym (cond-false (k == length (groups steps)) k looked (ne_eqb k (length (groups steps)) other))

  pub turn_end : length (groups steps) ≤ k → k ≡ turn_cut steps k t
  turn_end past = sym (ap (λ (g : List Step). if any_goes_back g t then k + 1 else k) (get_or_past (groups steps) k [] past))

  pub turned_is : (j : ℕ) (from to : Names) → from ≡ at_cut steps k → to ≡ back_at_cut steps j → j ≡ turn_cut steps k t → turned_marker steps k t ≡ call.Rename from to ∷ call.Sync ∷ []
  turned_is j from to from_is to_is j_is =
      ap (λ n. call.Rename (at_cut steps k) (back_at_cut steps n) ∷ call.Sync ∷ []) (sym j_is)
      ∙ ap (λ (p : Names). call.Rename p (back_at_cut steps j) ∷ call.Sync ∷ []) (sym from_is)
      ∙ ap (λ (p : Names). call.Rename from p ∷ call.Sync ∷ []) (sym to_is)

  pub undone_is : (group : List Step) (from to : Names) → group ≡ group_at k (groups steps) → from ≡ back_at_cut steps (k + 1) → to ≡ back_at_cut steps k
      → undone_group steps k t ≡ undo_calls (to_undo group t) ++ synced_rename_calls from to
  undone_is group from to group_is from_is to_is =
      ap (λ (g : List Step). unmarked_calls (to_undo g t) (back_at_cut steps (k + 1)) (back_at_cut steps k)) (sym group_is)
      ∙ ap (λ (p : Names). unmarked_calls (to_undo group t) p (back_at_cut steps k)) (sym from_is)
      ∙ ap (λ (p : Names). unmarked_calls (to_undo group t) from p) (sym to_is)
      ∙ sym (unmarked_is (to_undo group t) from to)

-- the groups before a cut, by the last of them
pub groups_before : (steps : List Step) (k : ℕ) (h : History) → 0 < k
    → undone_groups steps k h ≡ undone_group steps (k - 1) (current_tree h) ++ undone_groups steps (k - 1) (then_all h (undone_group steps (k - 1) (current_tree h)))
groups_before steps zero h some = absurd (omega arith)
groups_before steps (suc k) h some =
    let e : k ≡ suc k - 1 = omega arith in
    ap (λ n. undone_group steps n (current_tree h) ++ undone_groups steps n (then_all h (undone_group steps n (current_tree h)))) e
