-- The staging directory without a journal, taken away again.
use Rattle.std.proofs.Common.{◌≡◌, inl, inr, ℕ, List, [], ◌∷◌, ◌++◌, refl, sym, ◌∙◌, ap, subst}
use Rattle.std.specs.FinMap.{remove}
use Rattle.dired_text.proofs.PathLemmas.{rest_below-append}
use Rattle.tree_core.specs.declared.node.Change.TheVariants as call
use Rattle.tree_core.specs.FileTree.{FileTree, IsAbsent, is_dir_node}
use Rattle.tree_core.specs.History.{History, Then, current_tree, next_number, IsDurable, LeavesOnly}
use Rattle.tree_core.specs.Runs.{then_all}
use Rattle.tree_core.proofs.TreeLemmas.{absent_below, absent_not}
use Rattle.tree_core.proofs.Sound.{was_there}
use Rattle.tree_core.proofs.Moments.{Keeps, Pending, durable-sync}
use Rattle.tree_core.proofs.Runs.{IsSafe, IsClosed, closed_synced, closed_pending, then_all-append}
use Rattle.commit_states.specs.Stops.{Filling, IsStaging}
use Rattle.commit_states.specs.Calls.{unstage_calls, Unstages}
use Rattle.commit_steps.specs.Staging.{staging, staged}
use Rattle.step_trees.proofs.RemovalLemmas.{removed-other, removed-itself, removed_dir, no_dir}
use Rattle.step_trees.proofs.Without.{without-remove_in}

module _ (old : FileTree) where
  less : (u : FileTree) (x : List ℕ) → Filling old u → Filling old (remove u (staged x))
  less u x f = record {
    dir = ap is_dir_node (removed-other u (staged x) staging (λ same. let e : staging ≡ staged x = same in cc)) ∙ f.dir;
    only = λ name node e. f.only name node (was_there u (staged x) (staged name) node e);
    is = without-remove_in staging u (staged x) (x ∷ []) (rest_below-append staging (x ∷ [])) ∙ f.is;
  }

  pub keeps_unstage : (x : List ℕ) (n : ℕ) → Keeps (IsStaging old) (call.Remove (staged x)) n
  keeps_unstage x n u c sound (inl none) applied = absurd (absent_not _ (absent_below u sound.tree staging none.0 (x ∷ [])) applied.can.0)
  keeps_unstage x n u c sound (inr f) applied = inr (subst (Filling old) (sym applied.is) (less u x f))

  pub keeps_undir : (n : ℕ) → Keeps (IsStaging old) (call.RemoveDir staging) n
  keeps_undir n u c sound (inl none) applied = absurd (no_dir u staging none.0 applied.can.0)
  keeps_undir n u c sound (inr f) applied = inl (subst (λ (t : FileTree). IsAbsent t staging × (t ≡ old)) (sym applied.is) (removed-itself u staging, removed_dir u sound.tree staging applied.can.2 ∙ f.is))

  pub closed_unstage : (xs : List (List ℕ)) (h : History) → Unstages xs (current_tree h) → IsClosed (IsStaging old) h (unstage_calls xs)
  closed_unstage [] h can = (refl, can, keeps_undir (next_number h), tt)
  closed_unstage (x ∷ xs) h can = (refl, can.0, keeps_unstage x (next_number h), closed_unstage xs (Then h (call.Remove (staged x))) can.1)

  unstaged : (xs : List (List ℕ)) (h : History) → IsAbsent (current_tree (then_all h (unstage_calls xs))) staging
  unstaged [] h = removed-itself (current_tree h) staging
  unstaged (x ∷ xs) h = unstaged xs (Then h (call.Remove (staged x)))

  -- What is pending of the staging may be pending still: no sync stands between.
  module _ (xs : List (List ℕ)) (o h : History) (P : FileTree → Type 0) (gives : (t : FileTree) → IsStaging old t → P t) (moments : LeavesOnly o h P) (pending : Pending h (IsStaging old)) (can : Unstages xs (current_tree h)) where
    pub safe_unstage : IsSafe o P h (unstage_calls xs ++ call.Sync ∷ [])
    safe_unstage = closed_synced o P (IsStaging old) h (unstage_calls xs) gives moments pending (closed_unstage xs h can)

    last_now : IsStaging old (current_tree (then_all h (unstage_calls xs))) → current_tree (then_all h (unstage_calls xs)) ≡ old
    last_now (inl none) = none.1
    last_now (inr f) = absurd (no_dir _ staging (unstaged xs h) f.dir)

    pub done_unstage : (current_tree (then_all h (unstage_calls xs ++ call.Sync ∷ [])) ≡ old) × IsDurable (then_all h (unstage_calls xs ++ call.Sync ∷ []))
    done_unstage = subst (λ (g : History). (current_tree g ≡ old) × IsDurable g) (sym (then_all-append h (unstage_calls xs) (call.Sync ∷ [])))
        (last_now (closed_pending (IsStaging old) h (unstage_calls xs) pending (closed_unstage xs h can)).now, durable-sync (then_all h (unstage_calls xs)))
