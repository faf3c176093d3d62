-- Where a call before the groups failed, the way back leads to the old tree.
use Rattle.std.proofs.Common.{◌≡◌, inl, inr, ⊎_elim, ℕ, ◌+◌, ◌≤◌, ◌<◌, true, false, List, [], ◌∷◌, ◌++◌, length, refl, sym, ◌∙◌, ap, subst, arith, Option, Some, None, is_some, IsTrue}
use Rattle.std.specs.FinMap.{get}
use Rattle.std.specs.List.{AllByRecursion}
use Rattle.std.proofs.lemmas.Bool.{cond-true, cond-false}
use Rattle.dired_text.specs.Paths.{Names}
use Rattle.commit_run.specs.BeforePlan.{standing_removed, unstaged_all, unstaging, way_before}
use Rattle.commit_run.specs.WayBack.{way_back}
use Rattle.commit_run.proofs.EarlyLemmas.{Only, early_are, early_items_are, early_names, standing, standing_is, standing_unstages}
use Rattle.commit_run.proofs.WayBackLemmas.{LeadsHome, home_from_group}
use Rattle.commit_states.specs.declared.held.Held.{Held}
use Rattle.commit_states.specs.Calls.{Items, fresh_nodes, staging_calls, unstage_calls}
use Rattle.commit_states.specs.Fits.{Fits}
use Rattle.commit_states.specs.Interrupted.{IsInterruptedBy, IsWritten}
use Rattle.commit_states.specs.Laws.{LeadsSafely}
use Rattle.commit_states.specs.Reads.{IsAllNamed}
use Rattle.commit_states.specs.Stops.{Halted, IsEarly, IsStaging, Unplanned}
use Rattle.commit_states.proofs.FreshLemmas.{fresh_entries}
use Rattle.commit_states.proofs.LawLemmas.{names_staging, stagings_stop, unplanned_back, unstaged_back}
use Rattle.commit_states.proofs.TextLemmas.{written_are}
use Rattle.commit_steps.specs.declared.step.Step.{Step}
use Rattle.commit_steps.specs.Staging.{staging, staged, at_marker, fresh_name, new_journal, plan}
use Rattle.commit_steps.specs.Steps.{HasPaths}
use Rattle.step_trees.specs.Groups.{groups}
use Rattle.step_trees.proofs.NameLemmas.{differ, i-at, i-fresh, i-new, i-plan}
use Rattle.tree_core.specs.declared.changes.Fresh.{Fresh}
use Rattle.tree_core.specs.declared.node.CallName.{CallName}
use Rattle.tree_core.specs.declared.node.Change.{Change}
use Rattle.tree_core.specs.declared.node.Change.TheVariants as call
use Rattle.tree_core.specs.declared.node.Node.{Node}
use Rattle.tree_core.specs.FileTree.{FileTree, is_dir_node}
use Rattle.tree_core.specs.History.{History, Then, IsDurable, IsSound, LeavesOnly, clock, current_tree, next_number}
use Rattle.tree_core.specs.Runs.{CanAll, FailedIn, then_all}
use Rattle.tree_core.proofs.Runs.{IsSafe, safe_here}
use Rattle.tree_core.proofs.TreeLemmas.{absent_below}

-- ---- what a crash leaves, earlier

leaves_less : (P : FileTree → Type 0) (o h : History) (change : Change) → clock o ≤ clock h → LeavesOnly o (Then h change) P → LeavesOnly o h P
leaves_less P o h change le l = record {
  later = le;
  each = λ c left. l.each c (inr (le, left));
  before = λ m c below left. l.before m c below (inr (let low = below in let two = le in omega arith, left));
}

safe_of : (P : FileTree → Type 0) (o h : History) (cs : List Change) → clock o ≤ clock h → CanAll cs h → LeavesOnly o (then_all h cs) P → IsSafe o P h cs
safe_of P o h [] le can moments = moments
safe_of P o h (c ∷ cs) le can moments =
    let more = safe_of P o (Then h c) cs (omega arith) can.1 moments in
    (leaves_less P o h c le (safe_here o P (Then h c) cs more), can.0, more)

pub home_of : (P : FileTree → Type 0) (old : FileTree) (o h : History) (cs : List Change) → clock o ≤ clock h → LeadsSafely P old o h cs → LeadsHome P old o h cs
home_of P old o h cs le l = record { safe = safe_of P o h cs le l.can l.moments; is_old = l.target_stands; durable = l.durable }

-- ---- a staging that failed

node_stands : (o : Option Node) → IsTrue (is_dir_node o) → is_some o ≡ true
node_stands None dir = cc
node_stands (Some node) dir = refl

none_there : (o : Option Node) → is_some o ≡ false → o ≡ None
none_there None none = refl
none_there (Some node) none = cc

-- before the journal has its name
no_plan_early : (t : FileTree) (o : Option Node) → get t (staged plan) ≡ o → ((name : List ℕ) (node : Node) → get t (staged name) ≡ Some node → IsEarly name node) → is_some o ≡ false
no_plan_early t None e only = refl
no_plan_early t (Some node) e only = absurd (by_name (only plan node e))
  where
    by_name : IsEarly plan node → ⊥
    by_name (inl one) = differ plan new_journal 112 110 i-plan i-new refl one.named
    by_name (inr (inl one)) = differ plan (at_marker 0) 112 97 i-plan (i-at 0) refl one.named
    by_name (inr (inr one)) = differ plan (fresh_name one.number) 112 102 i-plan (i-fresh one.number) refl one.named

module _ (steps : List Step) (fs : List Fresh) (journal : List ℕ) (hs : List Held) (new : FileTree) (o : History) (durable : IsDurable o) (sound : IsSound o)
    (fits : Fits steps fs journal hs new (current_tree o) (next_number o)) where
  abbrev old : FileTree
  old = current_tree o

  abbrev nodes : List Node
  nodes = fresh_nodes (current_tree o) (next_number o + 1) fs

  abbrev P : FileTree → Type 0
  P = IsInterruptedBy (IsWritten steps) steps old new nodes

  abbrev xs : List (List ℕ)
  xs = early_names (length fs)

  module _ (last : History) (before : FileTree) (first : CallName) (failed : FailedIn (staging_calls fs journal) (Then o call.Sync) last before first) where
    abbrev t : FileTree
    t = current_tree last

    -- all that stands has an early name
    only_last : is_some (get t (staged plan)) ≡ false → Only xs t
    only_last none =
        subst (λ (l : Items). IsAllNamed l t) (early_items_are fs)
        (names_staging steps fs journal hs new o durable sound fits last before first failed (none_there (get t (staged plan)) none))

    -- ---- the way back

    home_unplanned : Unplanned (IsWritten steps) steps old new nodes old o last → LeadsHome P old o last (way_before steps fs last)
    home_unplanned u =
        subst (LeadsHome P old o last)
        (sym (cond-false (is_some (get t (staged plan))) (way_back steps fs 0 last) (unstaging (length fs) t) (no_plan u.reads)))
        (by_reads u.reads)
      where
        no_plan : IsStaging old t → is_some (get t (staged plan)) ≡ false
        no_plan (inl none) = ap is_some (absent_below t u.sound.tree staging none.0 (plan ∷ []))
        no_plan (inr f) = no_plan_early t (get t (staged plan)) refl f.only

        by_reads : IsStaging old t → LeadsHome P old o last (unstaging (length fs) t)
        by_reads (inl none) =
            subst (LeadsHome P old o last) (sym (cond-false (is_some (get t staging)) (unstaged_all (length fs) t) (call.Sync ∷ []) (ap is_some none.0)))
            (home_of P old o last (call.Sync ∷ []) u.moments.later (unstaged_back (IsWritten steps) steps old new nodes old o last (inl refl) u none.0))
        by_reads (inr f) =
            let names = standing xs t in
            let is : (unstaged_all (length fs) t) ≡ unstage_calls names ++ call.Sync ∷ [] =
            ap (λ (ps : List Names). standing_removed ps t ++ call.RemoveDir staging ∷ call.Sync ∷ []) (early_are (length fs)) ∙ standing_is xs t in
            subst (LeadsHome P old o last) (sym (cond-true (is_some (get t staging)) (unstaged_all (length fs) t) (call.Sync ∷ []) (node_stands (get t staging) f.dir) ∙ is))
            (home_of P old o last (unstage_calls names ++ call.Sync ∷ []) u.moments.later
            (unplanned_back (IsWritten steps) steps old new nodes old o last (inl refl) u names (standing_unstages xs t f.dir f.only (only_last (no_plan (inr f))))))

    home_halted : (h : Halted (IsWritten steps) steps old new nodes o last) → h.m ≡ 0 → AllByRecursion HasPaths steps → 0 < length (groups steps) → LeadsHome P old o last (way_before steps fs last)
    home_halted h zero_is paths some =
        subst (LeadsHome P old o last)
        (sym (cond-true (is_some (get t (staged plan))) (way_back steps fs 0 last) (unstaging (length fs) t) (ap is_some h.stands.journal.stands)))
        (home_from_group (IsWritten steps) steps old new nodes fits.leads paths fits.few_steps sound.tree fits.absent fs
        (fresh_entries old fs (next_number o + 1) sound.tree fits.absent fits.lawful fits.few_fresh) o last h (written_are steps) 0 some (inl zero_is))

    pub home_from_staging : AllByRecursion HasPaths steps → 0 < length (groups steps) → LeadsHome P old o last (way_before steps fs last)
    home_from_staging paths some = ⊎_elim
        (λ u. home_unplanned u)
        (λ h. home_halted h.0 h.1 paths some)
        (stagings_stop steps fs journal hs new o durable sound fits last before first failed)
