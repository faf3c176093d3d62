-- A commit that isn't stopped, as a whole.
use Rattle.std.proofs.Common.{◌≡◌, ℕ, ◌+◌, List, [], ◌∷◌, ◌++◌, length, refl, sym, ◌∙◌, subst}
use Rattle.tree_core.specs.declared.changes.Fresh.{Fresh}
use Rattle.tree_core.specs.declared.node.Node.{Node}
use Rattle.tree_core.specs.declared.node.Change.TheVariants as call
use Rattle.tree_core.specs.FileTree.{FileTree, IsTree, IsAbsent}
use Rattle.tree_core.specs.History.{History, Then, IsSound, current_tree, next_number, IsDurable}
use Rattle.tree_core.specs.Runs.{then_all}
use Rattle.tree_core.proofs.Runs.{IsSafe, safe_append, then_all-append}
use Rattle.std.specs.FinMap.{insert}
use Rattle.dired_text.proofs.PathLemmas.{rest_below-append, rest_below-same}
use Rattle.tree_core.specs.declared.node.Node.TheVariants.{Dir}
use Rattle.tree_core.proofs.TreeLemmas.{absent_below}
use Rattle.commit_states.proofs.FinishLemmas.{safe_finish, done_finish}
use Rattle.commit_states.proofs.LoopLemmas.{Ready, Gone, go}
use Rattle.commit_states.proofs.StageLemmas.{first_moments, safe_planned, first_ready}
use Rattle.commit_states.specs.Calls.{fresh_nodes, staging_calls, calls_from, seal_calls, cleaning_calls, work_calls, commit_calls}
use Rattle.commit_states.specs.Fits.{Fits, edited_by}
use Rattle.commit_states.specs.Interrupted.{IsInterruptedBy}
use Rattle.commit_states.specs.declared.held.Held.{Held}
use Rattle.commit_steps.specs.Staging.{staging, staged, fresh_name}
use Rattle.commit_steps.specs.declared.step.Step.{Step}
use Rattle.step_trees.proofs.PlaceLemmas.{all_remain}
use Rattle.step_trees.proofs.Without.{without-insert_in, without-nothing}
use Rattle.step_trees.specs.Entries.{rest}
use Rattle.step_trees.specs.Groups.{groups}
use Rattle.step_trees.specs.Leads.{with_fresh}
use Rattle.commit_states.specs.Interrupted.{IsWritten}
use Rattle.step_trees.proofs.LeadLemmas.{Led, led}

rest_fresh : (nodes : List Node) (k : ℕ) (t : FileTree) → rest (with_fresh k nodes t) ≡ rest t
rest_fresh [] k t = refl
rest_fresh (node ∷ nodes) k t = rest_fresh nodes (k + 1) _ ∙ without-insert_in staging t (staged (fresh_name k)) (fresh_name k ∷ []) node (rest_below-append staging (fresh_name k ∷ []))

-- no step leads to the tree itself
pub edited_by-none : (old : FileTree) (nodes : List Node) → IsTree old → IsAbsent old staging → edited_by [] old nodes ≡ old
edited_by-none old nodes tree absent =
    rest_fresh nodes 0 (insert old staging (Dir 0o700)) ∙ without-insert_in staging old staging [] (Dir 0o700) (rest_below-same staging) ∙ without-nothing staging old (absent_below old tree staging absent)

module _ (steps : List Step) (fs : List Fresh) (journal : List ℕ) (hs : List Held) (new : FileTree) (o : History) (durable : IsDurable o) (sound : IsSound o) (fits : Fits steps fs journal hs new (current_tree o) (next_number o)) where
  abbrev old : FileTree
  old = current_tree o

  abbrev nodes : List Node
  nodes = fresh_nodes old (next_number o + 1) fs

  abbrev P : FileTree → Type 0
  P = IsInterruptedBy (IsWritten steps) steps old new nodes

  abbrev h0 : History
  h0 = Then o call.Sync

  abbrev h1 : History
  h1 = then_all h0 (staging_calls fs journal)

  abbrev h2 : History
  h2 = then_all h1 (calls_from 0 (groups steps))

  pub leads : Led steps old new nodes
  leads = led steps old new nodes fits.leads fits.journal_is.journal.spelled.paths

  safe1 : IsSafe o P h0 (staging_calls fs journal)
  safe1 = safe_planned (IsWritten steps) steps new fs journal o durable sound fits.absent fits.lawful fits.few_fresh fits.journal_is leads

  pub ready1 : Ready (IsWritten steps) steps old new nodes o h1 0
  ready1 = first_ready (IsWritten steps) steps new fs journal o durable sound fits.absent fits.lawful fits.few_fresh fits.journal_is leads

  pub gone : Gone (IsWritten steps) steps old new nodes leads fits.few_steps o h1 0 (groups steps)
  gone = go (IsWritten steps) steps old new nodes leads fits.few_steps o (groups steps) h1 0 (all_remain steps old new nodes leads) ready1

  safe_end : IsSafe o P h2 (seal_calls ++ cleaning_calls hs (length steps))
  safe_end = safe_finish (IsWritten steps) steps old new nodes leads hs fits.cleans o h2 gone.ready

  safe_work : IsSafe o P h0 (work_calls steps fs journal hs)
  safe_work = safe_append o P h0 (staging_calls fs journal) (calls_from 0 (groups steps) ++ (seal_calls ++ cleaning_calls hs (length steps))) safe1
      (safe_append o P h1 (calls_from 0 (groups steps)) (seal_calls ++ cleaning_calls hs (length steps)) gone.safe safe_end)

  -- A crash at any moment of a commit leaves an interrupted tree.
  pub safe_commit : IsSafe o P o (commit_calls steps fs journal hs)
  safe_commit = (first_moments (IsWritten steps) steps new fs journal o durable sound fits.absent fits.lawful fits.few_fresh fits.journal_is leads, tt, safe_work)

  is_all : then_all o (commit_calls steps fs journal hs) ≡ then_all h2 (seal_calls ++ cleaning_calls hs (length steps))
  is_all =
      then_all-append h0 (staging_calls fs journal) (calls_from 0 (groups steps) ++ (seal_calls ++ cleaning_calls hs (length steps)))
      ∙ then_all-append h1 (calls_from 0 (groups steps)) (seal_calls ++ cleaning_calls hs (length steps))

  -- Behind it the edited tree stands, and nothing is pending.
  pub done_commit : (current_tree (then_all o (commit_calls steps fs journal hs)) ≡ new) × IsDurable (then_all o (commit_calls steps fs journal hs))
  done_commit = subst (λ (h : History). (current_tree h ≡ new) × IsDurable h) (sym is_all) (done_finish (IsWritten steps) steps old new nodes leads hs fits.cleans o h2 gone.ready)
