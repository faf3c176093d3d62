-- The laws of safe lists of calls, put together.
use Rattle.std.proofs.Common.{◌≡◌, ◌⊎◌, inl, inr, ⊎_elim, ℕ, ◌+◌, ◌<◌, ◌^◌, List, [], ◌∷◌, ◌++◌, length, take, sym, ◌∙◌, subst, arith}
use Rattle.std.specs.List.{AllByRecursion}
use Rattle.tree_core.specs.declared.changes.Fresh.{Fresh}
use Rattle.tree_core.specs.declared.node.Node.{Node}
use Rattle.tree_core.specs.declared.node.Change.{Change}
use Rattle.tree_core.specs.declared.node.Change.TheVariants as call
use Rattle.tree_core.specs.declared.node.CallName.{CallName}
use Rattle.tree_core.specs.FileTree.{FileTree, IsTree, IsAbsent, Stands}
use Rattle.tree_core.specs.History.{History, Then, IsSound, current_tree, next_number, IsCrashState, IsDurable}
use Rattle.tree_core.specs.Runs.{then_all, FailedIn}
use Rattle.tree_core.proofs.Runs.{IsSafe, closed_synced, safe_all, safe_can, safe_failed}
use Rattle.tree_core.proofs.Moments.{Pending, durable-sync}
use Rattle.step_trees.proofs.RemovalLemmas.{no_dir}
use Rattle.commit_steps.specs.declared.step.Step.{Step}
use Rattle.commit_steps.specs.Staging.{staging, staged, plan, sealed, undone}
use Rattle.commit_steps.specs.Steps.{HasPaths}
use Rattle.step_trees.specs.Steps.{after}
use Rattle.step_trees.specs.Groups.{groups, joined, to_next_cut, from_last_cut, left_of, taken_of}
use Rattle.step_trees.specs.Leads.{start, Leads}
use Rattle.step_trees.proofs.LeadLemmas.{Led, led}
use Rattle.step_trees.proofs.PlaceLemmas.{Remains, all_remain}
use Rattle.commit_states.specs.declared.held.Held.{Held}
use Rattle.commit_states.specs.Interrupted.{StandsAs, IsWritten, AreJournals, IsInterruptedBy, nothing_staged, no_journal, GoesForward, ReadsNew}
use Rattle.commit_states.specs.Calls.{fresh_nodes, early_items, commit_calls, staging_calls, unstage_calls, Unstages, Items, ClearsItems, close_calls, group_calls, calls_from, resume_calls, seal_calls, cleaning_calls, Cleans, turn_calls, home_calls, end_calls, fresh_items, CleansItems}
use Rattle.commit_states.specs.Fits.{Fits}
use Rattle.commit_states.specs.Reads.{IsAllNamed}
use Rattle.commit_states.specs.Stops.{IsStaging, Unplanned, Halted, Turned, TurnsRound, BehindSeal, AllUndone}
use Rattle.commit_states.specs.Laws.{LeadsSafely, staged_history, stepped_history, sealed_history}
use Rattle.commit_states.proofs.CommitLemmas.{safe_commit, done_commit, leads, ready1, gone}
use Rattle.commit_states.proofs.HaltLemmas.{halted, halted_in, split_failed}
use Rattle.commit_states.proofs.FinishLemmas.{seal_halted, sealed_stands, before_end}
use Rattle.commit_states.proofs.LoopLemmas.{Ready}
use Rattle.commit_states.proofs.PlaceLemmas.{failed_here}
use Rattle.commit_states.proofs.MarkerLemmas.{dir_there}
use Rattle.commit_states.proofs.TextLemmas.{written_are}
use Rattle.commit_states.specs.Places.{InStaging, AmongGroups, AtSeal, SealOrBehind}
use Rattle.commit_states.proofs.ResumeLemmas.{safe_forward, done_forward}
use Rattle.commit_states.proofs.ReturnLemmas.{safe_back, done_back, at_turn, safe_back_at, done_back_at}
use Rattle.commit_states.proofs.UncleanLemmas.{unclean, unclean_reads, sealed_reads}
use Rattle.commit_states.proofs.StageLemmas.{failed_staging, staging_place, staging_names_left}
use Rattle.commit_states.proofs.UnstageLemmas.{safe_unstage, done_unstage}
use Rattle.step_trees.specs.Entries.{IsHeld}
use Rattle.step_trees.proofs.NameLemmas.{own-sealed, own-undone, own-back}
use Rattle.commit_states.proofs.CloseLemmas.{safe_close, done_close}
use Rattle.commit_states.proofs.SealLemmas.{IsSealed, IsUndone, last_marker, own-last_marker, sealed_plan, plan-last_marker, sealed-last_marker, less_held, sealed_gives, last_gives, back0, undone_plan, plan_back0, undone_back0, FreshIn, less_fresh, undone_gives, old_gives}

pub leads_safely : (P : FileTree → Type 0) (target : FileTree) (began now : History) (changes : List Change) → IsSafe began P now changes
    → (current_tree (then_all now changes) ≡ target) × IsDurable (then_all now changes) → LeadsSafely P target began now changes
leads_safely P target began now changes safe ends = record {
  can = safe_can began P now changes safe;
  moments = safe_all began P now changes safe;
  failed = λ last before first failed. safe_failed began P now last before first changes safe failed;
  target_stands = ends.0;
  durable = ends.1;
}

-- ---- a commit

module _ (steps : List Step) (fs : List Fresh) (journal : List ℕ) (hs : List Held) (new : FileTree) (o : History) (durable : IsDurable o) (sound : IsSound o)
    (fits : Fits steps fs journal hs new (current_tree o) (next_number o)) where
  abbrev nodes : List Node
  nodes = fresh_nodes (current_tree o) (next_number o + 1) fs

  pub commit_leads : LeadsSafely (IsInterruptedBy (IsWritten steps) steps (current_tree o) new nodes) new o o (commit_calls steps fs journal hs)
  commit_leads = leads_safely (IsInterruptedBy (IsWritten steps) steps (current_tree o) new nodes) new o o (commit_calls steps fs journal hs)
      (safe_commit steps fs journal hs new o durable sound fits) (done_commit steps fs journal hs new o durable sound fits)

  lead : Led steps (current_tree o) new nodes
  lead = leads steps fs journal hs new o durable sound fits

  pub stagings_stop : (last : History) (before : FileTree) (first : CallName) → FailedIn (staging_calls fs journal) (Then o call.Sync) last before first
      → Unplanned (IsWritten steps) steps (current_tree o) new nodes (current_tree o) o last ⊎ ((h : Halted (IsWritten steps) steps (current_tree o) new nodes o last) × (h.m ≡ 0))
  stagings_stop last before first failed = failed_staging (IsWritten steps) steps new fs journal o durable sound fits.absent fits.lawful fits.few_fresh fits.journal_is lead last before first failed

  pub steps_halt : (last : History) (before : FileTree) (first : CallName) → FailedIn (calls_from 0 (groups steps)) (staged_history fs journal o) last before first
      → Halted (IsWritten steps) steps (current_tree o) new nodes o last
  steps_halt last before first failed = halted (IsWritten steps) steps (current_tree o) new nodes lead fits.few_steps o (groups steps) (staged_history fs journal o) 0 last before first
      (all_remain steps (current_tree o) new nodes lead) (ready1 steps fs journal hs new o durable sound fits) failed

  pub seals_go_forward : (last : History) (before : FileTree) (first : CallName) → FailedIn (seal_calls ++ cleaning_calls hs (length steps)) (stepped_history steps fs journal o) last before first
      → (c : FileTree) → IsCrashState last c → GoesForward (IsWritten steps) steps (current_tree o) new nodes c
  seals_go_forward last before first failed c left = unclean (IsWritten steps) steps (current_tree o) new nodes lead hs fits.cleans o (stepped_history steps fs journal o)
      (gone steps fs journal hs new o durable sound fits).ready last before first failed c left

  pub uncleans_read : (last : History) (before : FileTree) (first : CallName) → FailedIn (call.Sync ∷ cleaning_calls hs (length steps)) (sealed_history steps fs journal o) last before first
      → ReadsNew (IsWritten steps) steps (current_tree o) new nodes (current_tree last)
  uncleans_read last before first failed = unclean_reads (IsWritten steps) steps (current_tree o) new nodes lead hs fits.cleans o (stepped_history steps fs journal o)
      (gone steps fs journal hs new o durable sound fits).ready last before first failed

  pub seals_read : (last : History) (before : FileTree) (first : CallName) → FailedIn seal_calls (stepped_history steps fs journal o) last before first → Stands (current_tree last) (staged sealed)
      → ReadsNew (IsWritten steps) steps (current_tree o) new nodes (current_tree last)
  seals_read last before first failed stands = sealed_reads (IsWritten steps) steps (current_tree o) new nodes lead hs fits.cleans o (stepped_history steps fs journal o)
      (gone steps fs journal hs new o durable sound fits).ready last before first failed stands

  pub groups_halt : (front behind : List (List Step)) (g : List Step) → groups steps ≡ front ++ g ∷ behind → (k : ℕ) → k ≡ length (joined front)
      → (last : History) (before : FileTree) (first : CallName) → FailedIn (group_calls k g) (then_all (staged_history fs journal o) (calls_from 0 front)) last before first
      → (h : Halted (IsWritten steps) steps (current_tree o) new nodes o last) × ((h.m ≡ k) ⊎ (h.m ≡ k + length g))
  groups_halt front behind g are k is last before first failed = halted_in (IsWritten steps) steps (current_tree o) new nodes lead fits.few_steps o front behind g (staged_history fs journal o) 0 last before first
      (subst (Remains steps (current_tree o) new nodes lead 0) are (all_remain steps (current_tree o) new nodes lead)) (ready1 steps fs journal hs new o durable sound fits) k (omega arith) failed

  pub seals_halt : (last : History) (before : FileTree) (first : CallName) → FailedIn seal_calls (stepped_history steps fs journal o) last before first
      → Stands (current_tree last) (staged sealed) ⊎ ((h : Halted (IsWritten steps) steps (current_tree o) new nodes o last) × (h.m ≡ length steps))
  seals_halt last before first failed = seal_halted (IsWritten steps) steps (current_tree o) new nodes lead hs fits.cleans o (stepped_history steps fs journal o)
      (gone steps fs journal hs new o durable sound fits).ready last before first failed

  pub places_staging : (last : History) (before : FileTree) (first : CallName) → FailedIn (staging_calls fs journal) (Then o call.Sync) last before first → InStaging steps (current_tree o) first before
  places_staging last before first failed = staging_place (IsWritten steps) steps new fs journal o durable sound fits.absent fits.lawful fits.few_fresh fits.journal_is lead last before first failed

  pub names_staging : (last : History) (before : FileTree) (first : CallName) → FailedIn (staging_calls fs journal) (Then o call.Sync) last before first
      → IsAbsent (current_tree last) (staged plan) → IsAllNamed (early_items fs) (current_tree last)
  names_staging last before first failed no_plan = staging_names_left (IsWritten steps) steps new fs journal o durable sound fits.absent fits.lawful fits.few_fresh fits.journal_is lead last before first no_plan failed

  pub places_among : (last : History) (before : FileTree) (first : CallName) → FailedIn (calls_from 0 (groups steps)) (staged_history fs journal o) last before first → AmongGroups steps before
  places_among last before first failed =
      let here = failed_here (calls_from 0 (groups steps)) (staged_history fs journal o) last before first failed in
      let h = steps_halt here.0 before first here.2 in
      subst (AmongGroups steps) (sym here.1) record {
        dir = dir_there (IsWritten steps) steps (written_are steps) (current_tree o) new nodes o here.0 fits.leads h;
        journal = h.stands.journal;
      }

  pub places_behind : (last : History) (before : FileTree) (first : CallName) → FailedIn (seal_calls ++ cleaning_calls hs (length steps)) (stepped_history steps fs journal o) last before first → SealOrBehind steps new first before
  places_behind last before first failed =
      let r = (gone steps fs journal hs new o durable sound fits).ready in
      ⊎_elim (λ one. at_seal r one)
      (λ two. inr (before_end (IsWritten steps) steps (current_tree o) new nodes lead hs fits.cleans o (stepped_history steps fs journal o) r last before first two))
      (split_failed seal_calls (cleaning_calls hs (length steps)) (stepped_history steps fs journal o) last before first failed)
    where
      at_seal : Ready (IsWritten steps) steps (current_tree o) new nodes o (stepped_history steps fs journal o) (length steps) → FailedIn seal_calls (stepped_history steps fs journal o) last before first → SealOrBehind steps new first before
      at_seal r (inl f) = inl (subst (AtSeal steps first) (sym f.tree) record { call_is = f.named; journal = r.stands.journal; marked = r.stands.marked })
      at_seal r (inr (inl f)) = inr (inl (subst (λ t. Stands t (staged sealed)) (sym f.tree) (sealed_stands (IsWritten steps) steps (current_tree o) new nodes lead hs fits.cleans o (stepped_history steps fs journal o) r)))
      at_seal r (inr (inr nothing)) = absurd nothing

-- ---- without a journal

module _ (Text : List ℕ → Type 0) (steps : List Step) (old new : FileTree) (fresh : List Node) (target : FileTree) (began now : History) (which : (target ≡ old) ⊎ (target ≡ new)) (stop : Unplanned Text steps old new fresh target began now) where
  abbrev R : FileTree → Type 0
  R = IsInterruptedBy Text steps old new fresh

  is_row : (t : FileTree) → IsStaging target t → R t
  is_row t (inl none) = nothing_staged none.0 (⊎_elim (λ e. inl (none.1 ∙ e)) (λ e. inr (none.1 ∙ e)) which)
  is_row t (inr f) = no_journal f.dir f.only (⊎_elim (λ e. inl (f.is ∙ e)) (λ e. inr (f.is ∙ e)) which)

  pending : Pending now (IsStaging target)
  pending = record { each = stop.each; sound = stop.sound; now = stop.reads }

  pub unplanned_back : (xs : List (List ℕ)) → Unstages xs (current_tree now) → LeadsSafely R target began now (unstage_calls xs ++ call.Sync ∷ [])
  unplanned_back xs can = leads_safely R target began now (unstage_calls xs ++ call.Sync ∷ []) (safe_unstage target xs began now R is_row stop.moments pending can) (done_unstage target xs began now R is_row stop.moments pending can)

  pub unstaged_back : IsAbsent (current_tree now) staging → LeadsSafely R target began now (call.Sync ∷ [])
  unstaged_back absent = leads_safely R target began now (call.Sync ∷ []) (closed_synced began R (IsStaging target) now [] is_row stop.moments pending tt) (by_reads stop.reads, durable-sync now)
    where
      by_reads : IsStaging target (current_tree now) → current_tree now ≡ target
      by_reads (inl none) = none.1
      by_reads (inr f) = absurd (no_dir (current_tree now) staging absent f.dir)

-- ---- from a marker on

-- the journal tells that the paths of the steps are paths, and how many these are
paths_of_journal : (Text : List ℕ → Type 0) (steps : List Step) (are : AreJournals Text steps) (marker : List ℕ) (u t : FileTree) → StandsAs Text marker u t → AllByRecursion HasPaths steps
paths_of_journal Text steps are marker u t s = (are s.journal.bytes s.journal.spelled).journal.journal.spelled.paths

few_of_journal : (Text : List ℕ → Type 0) (steps : List Step) (are : AreJournals Text steps) (marker : List ℕ) (u t : FileTree) → StandsAs Text marker u t → length steps < 2 ^ 32
few_of_journal Text steps are marker u t s = (are s.journal.bytes s.journal.spelled).journal.journal.few

module _ (Text : List ℕ → Type 0) (steps : List Step) (are : AreJournals Text steps) (old new : FileTree) (fresh : List Node) where
  abbrev P : FileTree → Type 0
  P = IsInterruptedBy Text steps old new fresh

  pub go_forward : (hs : List Held) (began now : History) → Leads steps old new fresh → Cleans hs (after (take (length steps) steps) (start old fresh)) → (h : Halted Text steps old new fresh began now)
      → LeadsSafely P new began now
      (call.Sync ∷ (resume_calls steps h.m (left_of (to_next_cut h.m (groups steps)) (after (take h.m steps) (start old fresh)) h.u h.comes) ++ (seal_calls ++ cleaning_calls hs (length steps))))
  go_forward hs began now leads cleans h =
      let l = led steps old new fresh leads (paths_of_journal Text steps are _ h.u (current_tree now) h.stands) in
      let few = few_of_journal Text steps are _ h.u (current_tree now) h.stands in
      leads_safely P new began now
      (call.Sync ∷ (resume_calls steps h.m (left_of (to_next_cut h.m (groups steps)) (after (take h.m steps) (start old fresh)) h.u h.comes) ++ (seal_calls ++ cleaning_calls hs (length steps))))
      (safe_forward Text steps old new fresh l few began now h.moments h.sound hs cleans h.m h.u h.le h.comes h.stands)
      (done_forward Text steps old new fresh l few began now h.moments h.sound hs cleans h.m h.u h.le h.comes h.stands)

  module _ (fs : List Fresh) (began now : History) (leads : Leads steps old new fresh) (tree : IsTree old) (absent : IsAbsent old staging) (cleans : CleansItems (fresh_items 0 fs) (start old fresh)) where
    pub turned_go_back : (b : Turned Text steps old new fresh began now) → LeadsSafely P old began now
        (call.Sync ∷ (home_calls steps b.m (taken_of (from_last_cut b.m (groups steps)) (after (take b.k steps) (start old fresh)) b.u b.comes) ++ end_calls fs))
    turned_go_back b =
        let l = led steps old new fresh leads (paths_of_journal Text steps are _ b.u (current_tree now) b.stands) in
        let few = few_of_journal Text steps are _ b.u (current_tree now) b.stands in
        leads_safely P old began now
        (call.Sync ∷ (home_calls steps b.m (taken_of (from_last_cut b.m (groups steps)) (after (take b.k steps) (start old fresh)) b.u b.comes) ++ end_calls fs))
        (safe_back Text steps old new fresh l few tree absent fs cleans began now b.moments b.sound b.k b.m b.u b.le b.cut b.comes b.stands)
        (done_back Text steps old new fresh l few tree absent fs cleans began now b.moments b.sound b.k b.m b.u b.le b.cut b.comes b.stands)

    pub halts_go_back : (h : Halted Text steps old new fresh began now)
        → (t : TurnsRound steps old fresh h.m h.u (taken_of (to_next_cut h.m (groups steps)) (after (take h.m steps) (start old fresh)) h.u h.comes))
        × LeadsSafely P old began now
        (call.Sync ∷ (turn_calls h.m t.j ++ (home_calls steps t.j (taken_of (from_last_cut t.j (groups steps)) (after (take t.k steps) (start old fresh)) h.u t.comes) ++ end_calls fs)))
    halts_go_back h =
        let l = led steps old new fresh leads (paths_of_journal Text steps are _ h.u (current_tree now) h.stands) in
        let few = few_of_journal Text steps are _ h.u (current_tree now) h.stands in
        let t = at_turn Text steps old new fresh l few tree absent fs cleans began now h.moments h.sound h.m h.u h.le h.comes h.stands in (
          record { j = t.j; j_is = t.j_is; k = t.k; cut = t.cut; comes = t.comes },
          leads_safely P old began now
              (call.Sync ∷ (turn_calls h.m t.j ++ (home_calls steps t.j (taken_of (from_last_cut t.j (groups steps)) (after (take t.k steps) (start old fresh)) h.u t.comes) ++ end_calls fs)))
              (safe_back_at Text steps old new fresh l few tree absent fs cleans began now h.moments h.sound h.m h.u h.le h.comes h.stands)
              (done_back_at Text steps old new fresh l few tree absent fs cleans began now h.moments h.sound h.m h.u h.le h.comes h.stands),
        )

  -- ---- from `done` and `undone`

  pub seals_go_on : (began now : History) → Leads steps old new fresh → BehindSeal Text steps old new fresh began now → (xs : Items) → ClearsItems sealed xs (current_tree now)
      → LeadsSafely P new began now (call.Sync ∷ close_calls sealed xs)
  seals_go_on began now leads b xs clears =
      let l = led steps old new fresh leads (are b.journal.bytes b.journal.spelled).journal.journal.spelled.paths in
      let s : IsSealed Text steps new (current_tree now) = record { dir = b.dir; journal = b.journal; only = b.only; is = b.is } in
      leads_safely P new began now (call.Sync ∷ close_calls sealed xs)
      (safe_close sealed (last_marker steps) own-sealed (own-last_marker steps) sealed_plan (plan-last_marker steps) (sealed-last_marker steps) Text steps new IsHeld less_held P (sealed_gives Text steps old new fresh l) (last_gives Text steps old new fresh l) began now b.moments b.sound s xs clears)
      (done_close sealed (last_marker steps) own-sealed (own-last_marker steps) sealed_plan (plan-last_marker steps) (sealed-last_marker steps) Text steps new IsHeld less_held P (sealed_gives Text steps old new fresh l) (last_gives Text steps old new fresh l) began now b.moments b.sound s xs clears)

  pub undone_go_on : (began now : History) → Leads steps old new fresh → AllUndone Text steps old new fresh began now → (xs : Items) → ClearsItems undone xs (current_tree now)
      → LeadsSafely P old began now (call.Sync ∷ close_calls undone xs)
  undone_go_on began now leads b xs clears =
      let l = led steps old new fresh leads (are b.journal.bytes b.journal.spelled).journal.journal.spelled.paths in
      let s : IsUndone Text steps old (current_tree now) = record { dir = b.dir; journal = b.journal; only = b.only; is = b.is } in
      leads_safely P old began now (call.Sync ∷ close_calls undone xs)
      (safe_close undone back0 own-undone (own-back 0) undone_plan plan_back0 undone_back0 Text steps old FreshIn less_fresh P (undone_gives Text steps old new fresh l) (old_gives Text steps old new fresh l) began now b.moments b.sound s xs clears)
      (done_close undone back0 own-undone (own-back 0) undone_plan plan_back0 undone_back0 Text steps old FreshIn less_fresh P (undone_gives Text steps old new fresh l) (old_gives Text steps old new fresh l) began now b.moments b.sound s xs clears)
