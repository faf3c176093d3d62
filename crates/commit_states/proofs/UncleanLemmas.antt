-- A commit that is sealed but not clean: forward recovery of every tree that a crash may leave ends with the edited one.
use Rattle.std.proofs.Common.{inl, inr, ℕ, List, ◌∷◌, ◌++◌, length, take, refl, ◌∙◌, arith}
use Rattle.tree_core.specs.declared.node.Node.{Node}
use Rattle.tree_core.specs.declared.node.Change.TheVariants as call
use Rattle.tree_core.specs.declared.node.CallName.{CallName}
use Rattle.tree_core.specs.FileTree.{FileTree, Stands}
use Rattle.tree_core.specs.History.{History, Then, current_tree, clock, IsCrashState}
use Rattle.tree_core.specs.Runs.{FailedIn}
use Rattle.tree_core.proofs.TreeLemmas.{absent_below}
use Rattle.tree_core.proofs.Moments.{started-durable, counts_now}
use Rattle.tree_core.proofs.Runs.{IsSafe, safe_failed}
use Rattle.commit_states.proofs.FinishLemmas.{EndsSealed, safe_finish_as, unclean_ends, seal_ends}
use Rattle.commit_states.proofs.LoopLemmas.{Ready, forward_at}
use Rattle.commit_states.proofs.SealLemmas.{IsSealed, IsLastSealed}
use Rattle.commit_states.specs.Calls.{seal_calls, Cleans, cleaning_calls}
use Rattle.commit_states.specs.Interrupted.{StandsAfter, nothing_staged, no_journal, behind_seal, GoesForward, ReadsNew}
use Rattle.commit_states.specs.declared.held.Held.{Held}
use Rattle.commit_steps.specs.Staging.{staging, staged, plan, sealed, at_marker}
use Rattle.commit_steps.specs.declared.step.Step.{Step}
use Rattle.step_trees.specs.Leads.{start}
use Rattle.step_trees.specs.Steps.{after}
use Rattle.step_trees.proofs.LeadLemmas.{Led}
use Rattle.step_trees.proofs.Without.{without-nothing}

module _ (Text : List ℕ → Type 0) (steps : List Step) (old new : FileTree) (nodes : List Node) (leads : Led steps old new nodes) (hs : List Held) (cleans : Cleans hs (after (take (length steps) steps) (start old nodes)))
    (o h2 : History) (r : Ready Text steps old new nodes o h2 (length steps)) where
  abbrev F : FileTree → Type 0
  F = GoesForward Text steps old new nodes

  at_plan : (t : FileTree) → StandsAfter Text steps old nodes (at_marker (length steps)) (length steps) t → F t
  at_plan t s = (forward_at Text steps old new nodes leads (length steps) t (omega arith) s, refl)

  at_sealed : (t : FileTree) → IsSealed Text steps new t → F t
  at_sealed t s = (behind_seal leads.leads s.dir s.journal s.only s.is, refl)

  at_last : (t : FileTree) → IsLastSealed Text steps new t → F t
  at_last t (inl l) = (behind_seal leads.leads l.dir l.journal (λ name node e. inl (l.only name node e)) l.is, refl)
  at_last t (inr (inl e)) = (no_journal e.dir (λ name node is. absurd (e.only name node is)) (inr e.is), e.is)
  at_last t (inr (inr gone)) = (nothing_staged gone.0 (inr gone.1), gone.1)

  safe : IsSafe h2 F h2 (seal_calls ++ cleaning_calls hs (length steps))
  safe = safe_finish_as Text steps old new nodes leads hs cleans F at_plan at_sealed at_last h2 h2 (started-durable h2 F r.durable (at_plan (current_tree h2) r.stands)) r.durable r.sound r.stands

  pub unclean : (last : History) (before : FileTree) (first : CallName) → FailedIn (seal_calls ++ cleaning_calls hs (length steps)) h2 last before first → (c : FileTree) → IsCrashState last c → F c
  unclean last before first failed c left = let moments = safe_failed h2 F h2 last before first (seal_calls ++ cleaning_calls hs (length steps)) safe failed in moments.each c (counts_now (clock h2) last c left)

  -- the tree that reads
  reads_new : (t : FileTree) → EndsSealed Text steps new t → ReadsNew Text steps old new nodes t
  reads_new t (inl s) = record { leads = λ way. (behind_seal leads.leads s.dir s.journal s.only s.is, refl); is = s.is }
  reads_new t (inr (tree, inl l)) = record { leads = λ way. (behind_seal leads.leads l.dir l.journal (λ name node e. inl (l.only name node e)) l.is, refl); is = l.is }
  reads_new t (inr (tree, inr (inl e))) = record { leads = λ way. (no_journal e.dir (λ name node is. absurd (e.only name node is)) (inr e.is), e.is); is = e.is }
  reads_new t (inr (tree, inr (inr gone))) = record {
    leads = λ way. (nothing_staged gone.0 (inr gone.1), gone.1);
    is = without-nothing staging t (absent_below t tree staging gone.0) ∙ gone.1;
  }

  pub unclean_reads : (last : History) (before : FileTree) (first : CallName) → FailedIn (call.Sync ∷ cleaning_calls hs (length steps)) (Then h2 (call.Rename (staged plan) (staged sealed))) last before first
      → ReadsNew Text steps old new nodes (current_tree last)
  unclean_reads last before first failed = reads_new (current_tree last) (unclean_ends Text steps old new nodes leads hs cleans o h2 r last before first failed)

  pub sealed_reads : (last : History) (before : FileTree) (first : CallName) → FailedIn seal_calls h2 last before first → Stands (current_tree last) (staged sealed) → ReadsNew Text steps old new nodes (current_tree last)
  sealed_reads last before first failed stands = reads_new (current_tree last) (seal_ends Text steps old new nodes leads hs cleans o h2 r last before first failed stands)
