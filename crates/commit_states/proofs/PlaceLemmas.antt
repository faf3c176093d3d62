-- The tree before a call that failed.
use Rattle.std.proofs.Common.{◌≡◌, ◌⊎◌, inl, inr, ⊎_elim, ℕ, List, [], ◌∷◌, ◌++◌, refl, sym, ◌∙◌, ap, subst, Option, Some, None, is_some}
use Rattle.std.specs.FinMap.{get}
use Rattle.tree_core.specs.declared.node.Node.{Node}
use Rattle.tree_core.specs.declared.node.Change.{Change}
use Rattle.tree_core.specs.declared.node.Change.TheVariants as call
use Rattle.tree_core.specs.declared.node.CallName.{CallName}
use Rattle.tree_core.specs.FileTree.{FileTree, IsTree, IsAbsent, Stands}
use Rattle.tree_core.specs.History.{History, Then, current_tree}
use Rattle.tree_core.specs.Runs.{FailedIn}
use Rattle.tree_core.proofs.TreeLemmas.{absent_below}
use Rattle.tree_core.proofs.Moments.{Pending, pending-kept, pending-sync}
use Rattle.tree_core.proofs.Runs.{IsClosed}
use Rattle.commit_steps.specs.declared.step.Step.{Step}
use Rattle.commit_steps.specs.Staging.{staging, staged, plan, sealed, undone}
use Rattle.step_trees.proofs.Without.{without-nothing}
use Rattle.step_trees.specs.Entries.{rest, HoldsOnly}
use Rattle.commit_states.specs.Places.{HasNoJournal}
use Rattle.commit_states.proofs.SealLemmas.{IsSealed, IsLastSealed}

-- The same call failed in the history before it, and nothing of it was done.
pub failed_here : (cs : List Change) (h last : History) (before : FileTree) (first : CallName) → FailedIn cs h last before first
    → (x : History) × (before ≡ current_tree x) × FailedIn cs h x before first
failed_here [] h last before first failed = absurd failed
failed_here (c ∷ cs) h last before first (inl f) = (h, f.tree, inl record { named = f.named; tree = f.tree; fate = inl refl })
failed_here (c ∷ cs) h last before first (inr more) = let r = failed_here cs (Then h c) last before first more in (r.0, r.1, inr r.2)

-- what calls keep, with a sync behind them, held before the one that failed
pub closed_before : (Q : FileTree → Type 0) (h last : History) (before : FileTree) (first : CallName) (cs : List Change) → Pending h Q → IsClosed Q h cs
    → FailedIn (cs ++ call.Sync ∷ []) h last before first → (x : History) × Pending x Q × (before ≡ current_tree x)
closed_before Q h last before first [] p closed (inl f) = (h, p, f.tree)
closed_before Q h last before first [] p closed (inr nothing) = absurd nothing
closed_before Q h last before first (c ∷ cs) p closed (inl f) = (h, p, f.tree)
closed_before Q h last before first (c ∷ cs) p closed (inr more) = closed_before Q (Then h c) last before first cs (pending-kept h Q c closed.0 p closed.1 closed.2) closed.3 more

-- and holds where one of them, or the sync, failed
pub closed_behind : (Q : FileTree → Type 0) (h last : History) (before : FileTree) (first : CallName) (cs : List Change) → Pending h Q → IsClosed Q h cs
    → FailedIn (cs ++ call.Sync ∷ []) h last before first → Pending last Q
closed_behind Q h last before first [] p closed (inl f) = ⊎_elim
    (λ is. subst (λ (x : History). Pending x Q) (sym is) p)
    (λ is. subst (λ (x : History). Pending x Q) (sym is) (pending-sync h Q p.sound p.now)) f.fate
closed_behind Q h last before first [] p closed (inr nothing) = absurd nothing
closed_behind Q h last before first (c ∷ cs) p closed (inl f) = ⊎_elim
    (λ is. subst (λ (x : History). Pending x Q) (sym is) p)
    (λ is. subst (λ (x : History). Pending x Q) (sym is) (pending-kept h Q c closed.0 p closed.1 closed.2)) f.fate
closed_behind Q h last before first (c ∷ cs) p closed (inr more) = closed_behind Q (Then h c) last before first cs (pending-kept h Q c closed.0 p closed.1 closed.2) closed.3 more

holds_none : (t : FileTree) → HoldsOnly t (λ name node. ⊥) → (x : List ℕ) → IsAbsent t (staged x)
holds_none t only x = by_node (get t (staged x)) refl
  where
    by_node : (o : Option Node) → get t (staged x) ≡ o → IsAbsent t (staged x)
    by_node None e = e
    by_node (Some node) e = absurd (only x node e)

abbrev pub Behind : FileTree → FileTree → Type 0
Behind new t = Stands t (staged sealed) ⊎ (HasNoJournal t × (rest t ≡ new))

pub behind_sealed : (Text : List ℕ → Type 0) (steps : List Step) (new t : FileTree) → IsSealed Text steps new t → Behind new t
behind_sealed Text steps new t s = inl (ap is_some s.journal.stands)

pub behind_last : (Text : List ℕ → Type 0) (steps : List Step) (new t : FileTree) → IsTree t → IsLastSealed Text steps new t → Behind new t
behind_last Text steps new t tree (inl l) = inl (ap is_some l.journal.stands)
behind_last Text steps new t tree (inr (inl e)) = inr (record { no_plan = holds_none t e.only plan; no_seal = holds_none t e.only sealed; no_undone = holds_none t e.only undone }, e.is)
behind_last Text steps new t tree (inr (inr gone)) = inr (
  record { no_plan = absent_below t tree staging gone.0 (plan ∷ []); no_seal = absent_below t tree staging gone.0 (sealed ∷ []); no_undone = absent_below t tree staging gone.0 (undone ∷ []) },
  without-nothing staging t (absent_below t tree staging gone.0) ∙ gone.1,
)
