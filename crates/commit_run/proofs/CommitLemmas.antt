-- How a commit ends, by what failed.
use Rattle.std.proofs.Common.{◌≡◌, ◌⊎◌, inl, inr, ⊎_elim, ℕ, ◌+◌, ◌<◌, true, false, List, [], ◌∷◌, ◌++◌, length, take, drop, refl, sym, ◌∙◌, ap, subst, Result, Ok, Err}
use Rattle.std.specs.List.{AllByRecursion}
use Rattle.std.proofs.lemmas.List.{drop_more, take-append-drop}
use Rattle.commit_calls.specs.declared.group.Stopped.{Stopped}
use Rattle.commit_calls.specs.Cuts.{StoppedIn, cut_at, group_at}
use Rattle.commit_calls.proofs.EndLemmas.{stopped_among}
use Rattle.commit_run.specs.declared.end.CommitEnd.{CommitEnd}
use Rattle.commit_run.specs.declared.end.CommitEnd.TheVariants as end
use Rattle.commit_run.specs.declared.prepared.Prepared.{Prepared}
use Rattle.commit_run.specs.BeforePlan.{way_before}
use Rattle.commit_run.specs.Begun.{Begun, EndsRun, run_from}
use Rattle.commit_run.specs.Ends.{MayStand, Run, StoodAt, end_behind, old_tree}
use Rattle.commit_run.specs.Faults.{IsKept, is_begun}
use Rattle.commit_run.specs.Preparing.{IsPrepared}
use Rattle.commit_run.specs.Sealing.{finish_calls, sealed_rename}
use Rattle.commit_run.specs.WayBack.{way_back}
use Rattle.commit_run.proofs.EndLemmas.{ended_home, stands_now}
use Rattle.commit_run.proofs.StagingLemmas.{home_from_staging}
use Rattle.commit_run.proofs.WayBackLemmas.{LeadsHome, home_from_end, home_from_group}
use Rattle.commit_states.specs.Calls.{calls_from, cleaning_calls, commit_calls, seal_calls, staging_calls}
use Rattle.commit_states.specs.Interrupted.{IsWritten, ReadsNew, nothing_staged}
use Rattle.commit_states.specs.Laws.{staged_history, stepped_history}
use Rattle.commit_states.specs.Places.{AmongGroups, AtSeal, InStaging}
use Rattle.commit_states.proofs.CommitLemmas.{edited_by-none, gone, leads}
use Rattle.commit_states.proofs.FinishLemmas.{done_finish, safe_finish}
use Rattle.commit_states.proofs.FreshLemmas.{fresh_entries}
use Rattle.commit_states.proofs.LawLemmas.{commit_leads, groups_halt, places_among, places_behind, places_staging, seals_go_forward, seals_halt, seals_read, uncleans_read}
use Rattle.commit_states.proofs.LoopLemmas.{Ready}
use Rattle.commit_states.proofs.TextLemmas.{written_are}
use Rattle.commit_steps.specs.declared.step.Step.{Step}
use Rattle.commit_steps.specs.Staging.{staged, sealed}
use Rattle.commit_steps.specs.Steps.{HasPaths}
use Rattle.step_looks.specs.Undoing.{RanOrLooked}
use Rattle.step_trees.specs.Groups.{groups}
use Rattle.step_trees.specs.Leads.{LeadsFrom, start}
use Rattle.step_trees.specs.Steps.{IsStep}
use Rattle.step_trees.proofs.LeadLemmas.{Led}
use Rattle.tree_core.specs.declared.node.CallName.{CallName}
use Rattle.tree_core.specs.declared.node.Change.{Change}
use Rattle.tree_core.specs.declared.node.Change.TheVariants as call
use Rattle.tree_core.specs.FileTree.{FileTree, Stands}
use Rattle.tree_core.specs.History.{History, Then, IsDurable, IsSound, LeavesOnly, current_tree, next_number}
use Rattle.tree_core.specs.Runs.{CanAll, FailedIn, then_all}
use Rattle.tree_core.proofs.Moments.{durable-sync, goes_on-sync, started-durable}
use Rattle.tree_core.proofs.Runs.{IsSafe, can_first, can_rest, failed_first, safe_all, safe_can, safe_failed}

paths_of : (steps : List Step) → AllByRecursion IsStep steps → AllByRecursion HasPaths steps
paths_of [] all = tt
paths_of (s ∷ steps) all = (all.0.paths, paths_of steps all.1)

-- behind a way back the call that failed first tells the place
stood_home : {X : Type 0} (run : Run) (cs : List Change) (now new : History) (before after : FileTree) (first : CallName) (result : Result X CallName) → RanOrLooked cs now new before after result
    → InStaging run.steps (old_tree run.begun) first before ⊎ (AmongGroups run.steps before ⊎ AtSeal run.steps first before) → StoodAt run after (end_behind first result)
stood_home run cs now new before after first (Ok v) ran place =
    subst (λ (t : FileTree). InStaging run.steps (old_tree run.begun) first t ⊎ (AmongGroups run.steps t ⊎ AtSeal run.steps first t)) (sym ran.1) place
stood_home run cs now new before after first (Err second) ran place = tt

module _ (p : Prepared) (is : IsPrepared p) (o : History) (new : FileTree) (begun : Begun p o new) where
  abbrev steps : List Step
  steps = p.steps

  abbrev run : Run
  run = run_from p o new

  abbrev gs : List (List Step)
  gs = groups p.steps

  paths : AllByRecursion HasPaths steps
  paths = paths_of p.steps is.steps

  -- what a failed call leads to, by the calls of the way back
  pub home_staging : (last : History) (before : FileTree) (first : CallName) → 0 < length gs → FailedIn (staging_calls p.fresh.items p.journal) (Then o call.Sync) last before first
      → LeadsHome (MayStand run) (old_tree o) o last (way_before steps p.fresh.items last)
  home_staging last before first some failed =
      home_from_staging steps p.fresh.items p.journal p.held.items new o begun.durable begun.sound begun.fits last before first failed paths some

  pub home_group : (last : History) (before : FileTree) (s : Stopped) → s.group < length gs → StoppedIn gs s (staged_history p.fresh.items p.journal o) last before
      → LeadsHome (MayStand run) (old_tree o) o last (way_back steps p.fresh.items s.group last)
  home_group last before s lt failed =
      let split : gs ≡ take s.group gs ++ group_at s.group gs ∷ drop (s.group + 1) gs = sym (take-append-drop s.group gs) ∙ ap (λ (l : List (List Step)). take s.group gs ++ l) (drop_more gs s.group [] lt) in
      let h = groups_halt steps p.fresh.items p.journal p.held.items new o begun.durable begun.sound begun.fits (take s.group gs) (drop (s.group + 1) gs) (group_at s.group gs) split (cut_at s.group gs) refl last before s.first failed in
      home_from_group (IsWritten steps) steps (old_tree o) new run.made begun.fits.leads paths begun.fits.few_steps begun.sound.tree begun.fits.absent p.fresh.items
      (fresh_entries (old_tree o) p.fresh.items (next_number o + 1) begun.sound.tree begun.fits.absent begun.fits.lawful begun.fits.few_fresh) o last h.0 (written_are steps) s.group lt h.1

  -- the rename is the first call of the seal
  at_rename : (last : History) (before : FileTree) (first : CallName) → FailedIn (sealed_rename ∷ []) (stepped_history steps p.fresh.items p.journal o) last before first
      → FailedIn seal_calls (stepped_history steps p.fresh.items p.journal o) last before first
  at_rename last before first (inl f) = inl f
  at_rename last before first (inr nothing) = absurd nothing

  -- the seal failed, and nothing stands under `done`
  pub home_seal : (last : History) (before : FileTree) (first : CallName) → FailedIn (sealed_rename ∷ []) (stepped_history steps p.fresh.items p.journal o) last before first
      → (Stands (current_tree last) (staged sealed) → ⊥)
      → LeadsHome (MayStand run) (old_tree o) o last (way_back steps p.fresh.items (length gs) last)
  home_seal last before first failed none = ⊎_elim
      (λ stands. absurd (none stands))
      (λ h. home_from_end (IsWritten steps) steps (old_tree o) new run.made begun.fits.leads paths begun.fits.few_steps begun.sound.tree begun.fits.absent p.fresh.items
      (fresh_entries (old_tree o) p.fresh.items (next_number o + 1) begun.sound.tree begun.fits.absent begun.fits.lawful begun.fits.few_fresh) o last h.0 h.1)
      (seals_halt steps p.fresh.items p.journal p.held.items new o begun.durable begun.sound begun.fits last before first (at_rename last before first failed))

  -- ---- how it ends

  pub ends_behind : {X : Type 0} (now last : History) (cs : List Change) (before after : FileTree) (first : CallName) (result : Result X CallName) → LeadsHome (MayStand run) (old_tree o) o now cs → IsSound last
      → RanOrLooked cs now last before after result → InStaging steps (old_tree o) first before ⊎ (AmongGroups steps before ⊎ AtSeal steps first before)
      → EndsRun run last after (end_behind first result)
  ends_behind now last cs before after first result home sound ran place = record {
    ends = ended_home run now last cs home sound first before after result ran;
    place = stood_home run cs now last before after first result ran place;
  }

  pub place_staging : (last : History) (before : FileTree) (first : CallName) → FailedIn (staging_calls p.fresh.items p.journal) (Then o call.Sync) last before first
      → InStaging steps (old_tree o) first before ⊎ (AmongGroups steps before ⊎ AtSeal steps first before)
  place_staging last before first failed = inl (places_staging steps p.fresh.items p.journal p.held.items new o begun.durable begun.sound begun.fits last before first failed)

  pub place_group : (last : History) (before : FileTree) (s : Stopped) → s.group < length gs → StoppedIn gs s (staged_history p.fresh.items p.journal o) last before
      → InStaging steps (old_tree o) s.first before ⊎ (AmongGroups steps before ⊎ AtSeal steps s.first before)
  place_group last before s lt failed =
      inr (inl (places_among steps p.fresh.items p.journal p.held.items new o begun.durable begun.sound begun.fits last before s.first (stopped_among gs s (staged_history p.fresh.items p.journal o) last before lt failed)))

  abbrev stepped : History
  stepped = stepped_history steps p.fresh.items p.journal o

  ready : Ready (IsWritten steps) steps (old_tree o) new run.made o stepped (length steps)
  ready = (gone steps p.fresh.items p.journal p.held.items new o begun.durable begun.sound begun.fits).ready

  pub place_seal : (last : History) (before : FileTree) (first : CallName) → FailedIn (sealed_rename ∷ []) stepped last before first
      → InStaging steps (old_tree o) first before ⊎ (AmongGroups steps before ⊎ AtSeal steps first before)
  place_seal last before first (inl f) = inr (inr (subst (AtSeal steps first) (sym f.tree) record { call_is = f.named; journal = ready.stands.journal; marked = ready.stands.marked }))
  place_seal last before first (inr nothing) = absurd nothing

  -- ---- behind the seal

  abbrev last_calls : List Change
  last_calls = seal_calls ++ cleaning_calls p.held.items (length steps)

  lead : Led steps (old_tree o) new run.made
  lead = leads steps p.fresh.items p.journal p.held.items new o begun.durable begun.sound begun.fits

  safe_last : IsSafe o (MayStand run) stepped last_calls
  safe_last = safe_finish (IsWritten steps) steps (old_tree o) new run.made lead p.held.items begun.fits.cleans o stepped ready

  ends_unclean : (last : History) (before : FileTree) (first : CallName) → FailedIn last_calls stepped last before first
      → ReadsNew (IsWritten steps) steps (old_tree o) new run.made (current_tree last) → EndsRun run last before (end.Unclean first)
  ends_unclean last before first failed e = record {
    ends = record {
      moments = safe_failed o (MayStand run) stepped last before first last_calls safe_last failed;
      stands = (e.is, e.leads, λ c left. seals_go_forward steps p.fresh.items p.journal p.held.items new o begun.durable begun.sound begun.fits last before first failed c left);
    };
    place = places_behind steps p.fresh.items p.journal p.held.items new o begun.durable begun.sound begun.fits last before first failed;
  }

  -- a call behind the rename failed
  pub unclean_finish : (last : History) (before : FileTree) (first : CallName) → FailedIn (finish_calls steps p.held.items) (Then stepped sealed_rename) last before first → EndsRun run last before (end.Unclean first)
  unclean_finish last before first failed =
      ends_unclean last before first (inr failed) (uncleans_read steps p.fresh.items p.journal p.held.items new o begun.durable begun.sound begun.fits last before first failed)

  -- the rename failed, and was done
  pub unclean_seal : (last : History) (before : FileTree) (first : CallName) → FailedIn (sealed_rename ∷ []) stepped last before first → Stands (current_tree last) (staged sealed)
      → EndsRun run last before (end.Unclean first)
  unclean_seal last before first failed stands =
      ends_unclean last before first (failed_first (sealed_rename ∷ []) (finish_calls steps p.held.items) stepped last before first failed)
      (seals_read steps p.fresh.items p.journal p.held.items new o begun.durable begun.sound begun.fits last before first (at_rename last before first failed) stands)

  -- the look at the rename that failed did so too
  pub unfinished_seal : (last : History) (before after : FileTree) (first second : CallName) → IsSound last → FailedIn (sealed_rename ∷ []) stepped last before first → EndsRun run last after (end.Unfinished first second)
  unfinished_seal last before after first second sound failed =
      let moments = safe_failed o (MayStand run) stepped last before first last_calls safe_last (failed_first (sealed_rename ∷ []) (finish_calls steps p.held.items) stepped last before first failed) in
      record { ends = record { moments = moments; stands = stands_now (MayStand run) o last moments sound }; place = tt }

  pub ends_done : (now : History) (after : FileTree) → now ≡ then_all stepped last_calls → EndsRun run now after end.Done
  ends_done now after is = record {
    ends = record {
      moments = subst (λ (h : History). LeavesOnly o h (MayStand run)) (sym is) (safe_all o (MayStand run) stepped last_calls safe_last);
      stands = subst (λ (h : History). (current_tree h ≡ new) × IsDurable h) (sym is) (done_finish (IsWritten steps) steps (old_tree o) new run.made lead p.held.items begun.fits.cleans o stepped ready);
    };
    place = tt;
  }

  -- ---- each call can be done

  commit_can : CanAll (commit_calls steps p.fresh.items p.journal p.held.items) o
  commit_can = (commit_leads steps p.fresh.items p.journal p.held.items new o begun.durable begun.sound begun.fits).can

  abbrev behind_staging : List Change
  behind_staging = calls_from 0 gs ++ (seal_calls ++ cleaning_calls p.held.items (length steps))

  pub can_stage : CanAll (staging_calls p.fresh.items p.journal) (Then o call.Sync)
  can_stage = can_first (Then o call.Sync) (staging_calls p.fresh.items p.journal) behind_staging commit_can.1

  pub can_groups : CanAll (calls_from 0 gs) (staged_history p.fresh.items p.journal o)
  can_groups =
      can_first (staged_history p.fresh.items p.journal o) (calls_from 0 gs) (seal_calls ++ cleaning_calls p.held.items (length steps))
      (can_rest (Then o call.Sync) (staging_calls p.fresh.items p.journal) behind_staging commit_can.1)

  pub can_last : CanAll last_calls stepped
  can_last = safe_can o (MayStand run) stepped last_calls safe_last

  -- ---- the first sync

  row_old : MayStand run (old_tree o)
  row_old = nothing_staged begun.fits.absent (inl refl)

  begun_moments : LeavesOnly o o (MayStand run)
  begun_moments = started-durable o (MayStand run) begun.durable row_old

  synced_moments : LeavesOnly o (Then o call.Sync) (MayStand run)
  synced_moments = goes_on-sync o o (MayStand run) begun_moments row_old

  pub ends_fault : (last : History) (before : FileTree) (first : CallName) → FailedIn (call.Sync ∷ []) o last before first → EndsRun run last before (end.TreeFault first)
  ends_fault last before first (inl f) = record {
    ends = record {
      moments = ⊎_elim
          (λ (e : last ≡ o). subst (λ (h : History). LeavesOnly o h (MayStand run)) (sym e) begun_moments)
          (λ (e : last ≡ Then o call.Sync). subst (λ (h : History). LeavesOnly o h (MayStand run)) (sym e) synced_moments)
          f.fate;
      stands = f.fate;
    };
    place = (f.named, f.tree);
  }
  ends_fault last before first (inr nothing) = absurd nothing

  -- no step leads to the old tree
  pub ends_empty : (now : History) (after : FileTree) → p.steps ≡ [] → now ≡ Then o call.Sync → EndsRun run now after end.Done
  ends_empty now after none is =
      let from : LeadsFrom (start (old_tree o) run.made) [] new = subst (λ (l : List Step). LeadsFrom (start (old_tree o) run.made) l new) none begun.fits.leads.from in
      let same : old_tree o ≡ new = sym (edited_by-none (old_tree o) run.made begun.sound.tree begun.fits.absent) ∙ from.1.is in
      record {
        ends = record {
          moments = subst (λ (h : History). LeavesOnly o h (MayStand run)) (sym is) synced_moments;
          stands = (ap current_tree is ∙ same, subst IsDurable (sym is) (durable-sync o));
        };
        place = tt;
      }

-- ---- what was changed

-- one for which there was memory says nothing of it
pub kept_begun : (old now : ℕ) (e : CommitEnd) → is_begun e ≡ true → IsKept old now e
kept_begun old now end.Done begun = tt
kept_begun old now end.Memory begun = absurd (let wrong : false ≡ true = begun in cc)
kept_begun old now (end.TreeFault first) begun = tt
kept_begun old now (end.RolledBack first) begun = tt
kept_begun old now (end.Unfinished first second) begun = tt
kept_begun old now (end.Unclean first) begun = tt
