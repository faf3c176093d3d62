-- A task does what the course of what was found says, and ends so.
use Rattle.std.proofs.Common.{◌≡◌, ◌⊎◌, inl, inr, ⊎_elim, ℕ, suc, Bool, true, List, [], ◌∷◌, Option, Some, None, refl, sym, ◌∙◌, ap, subst, Result, Ok, Err}
use Rattle.commit_recover.specs.declared.end.RecoverEnd.{RecoverEnd}
use Rattle.commit_recover.specs.declared.end.RecoverEnd.TheVariants as end
use Rattle.commit_recover.specs.declared.task.Task.{Task}
use Rattle.commit_recover.specs.declared.task.Task.TheVariants.{Clear, Seal, Undo, Forward, Back, Turn}
use Rattle.commit_recover.specs.Answers.{Answers, HasFound, IsCarriedOut, course_behind}
use Rattle.commit_recover.specs.Courses.{course_of, course_with, end_of, end_with, marked_course, marked_end, planned_course, planned_end, unless_strange}
use Rattle.commit_recover.specs.Items.{other_items}
use Rattle.commit_recover.specs.Tasks.{CanCarryOut, FollowsSynced, FollowsTask, IsTaskFor, IsWorkFor, is_worked, task_course, task_end}
use Rattle.commit_steps.specs.declared.step.Step.{Step}
use Rattle.commit_steps.specs.Staging.{plan, sealed, undone}
use Rattle.recovery_calls.specs.declared.work.Work.{Work}
use Rattle.recovery_calls.specs.Underway.{IsUnderway}
use Rattle.recovery_calls.specs.Works.{entries_of}
use Rattle.recovery_courses.specs.Course.{Course, these}
use Rattle.recovery_courses.specs.Ends.{back_from, forward_from, turned_back_from}
use Rattle.recovery_start.specs.declared.leftovers.Leftovers.{Leftovers}
use Rattle.staging_names.specs.declared.entry_name.EntryName.{EntryName}
use Rattle.staging_names.specs.declared.staged_name.Journal as journal
use Rattle.staging_names.specs.declared.staged_name.Journal.TheVariants.{Plan, Done, Undone}
use Rattle.staging_names.specs.declared.staged_name.Marker as marker
use Rattle.staging_names.specs.declared.staged_name.Side.TheVariants as side
use Rattle.staging_names.specs.declared.standing.Standing.{Standing}
use Rattle.staging_names.specs.Names.{marker_name}
use Rattle.step_looks.specs.Undoing.{LookedIn}
use Rattle.tree_core.specs.declared.node.CallName.{CallName}
use Rattle.tree_core.specs.declared.node.Change.{Change}
use Rattle.tree_core.specs.declared.node.Change.TheVariants.{Sync}
use Rattle.tree_core.specs.FileTree.{FileTree}
use Rattle.tree_core.specs.History.{History, Then, current_tree}
use Rattle.tree_core.specs.Runs.{CanAll, FailedIn, then_all}
use Rattle.commit_recover.proofs.CanLemmas.{can_clear, can_seal, can_undo, is_marked}
use Rattle.commit_recover.proofs.FoundLemmas.{not_both}
use Rattle.commit_recover.proofs.ItemLemmas.{clear_same, closed_same}

-- ---- the course and the end, by the journal and the marker

pub course_by : (l : Leftovers) (j : Option journal.Journal) → l.standing.journal ≡ j → (way : Bool) (h : History) → course_of l way h ≡ course_with j l way h
course_by l j is way h = ap (λ (x : Option journal.Journal). course_with x l way h) is

pub end_by : (l : Leftovers) (j : Option journal.Journal) → l.standing.journal ≡ j → (way : Bool) → end_of l way ≡ end_with j l way
end_by l j is way = ap (λ (x : Option journal.Journal). end_with x l way) is

pub course_planned : (l : Leftovers) (m : marker.Marker) → l.standing ≡ record { journal = Some Plan; marker = Some m } → (way : Bool) (h : History) → course_of l way h ≡ planned_course m.side m.number l way h
course_planned l m is way h =
    course_by l (Some Plan) (ap (λ (s : Standing). s.journal) is) way h ∙ ap (λ (o : Option marker.Marker). marked_course o l way h) (ap (λ (s : Standing). s.marker) is)

pub end_planned : (l : Leftovers) (m : marker.Marker) → l.standing ≡ record { journal = Some Plan; marker = Some m } → (way : Bool) → end_of l way ≡ planned_end m.side way
end_planned l m is way =
    end_by l (Some Plan) (ap (λ (s : Standing). s.journal) is) way ∙ ap (λ (o : Option marker.Marker). marked_end o way) (ap (λ (s : Standing). s.marker) is)

-- ---- a task for what was found

module _ (h : History) (l : Leftovers) (found : HasFound h l) where
  work_course : (f : List Step → List EntryName → Course) (w : Work) → IsWorkFor l w → f w.steps (entries_of w) ≡ f l.steps l.entries.items
  work_course f w is = ap (λ (s : List Step). f s (entries_of w)) is.steps ∙ ap (λ (es : List EntryName). f l.steps es) is.entries

  pub task_follows : (back : Bool) (task : Task) → IsTaskFor l back task → (now : History) → task_course task now ≡ course_of l back now
  task_follows back (Clear entries paths) (none, entries_are, paths_are) now =
      ap these (clear_same l.names.items entries.items paths.staging (entries_are ∙ found.sorted.paths) paths_are.staging_is) ∙ sym (course_by l None none back now)
  task_follows back (Seal items paths) (last, items_are, paths_are) now =
      ap these (closed_same sealed (other_items l) items.items paths.sealed paths.staging items_are paths_are.sealed_is paths_are.staging_is) ∙ sym (course_by l (Some Done) last back now)
  task_follows back (Undo items paths) (last, items_are, paths_are) now =
      ap these (closed_same undone (other_items l) items.items paths.undone paths.staging items_are paths_are.undone_is paths_are.staging_is) ∙ sym (course_by l (Some Undone) last back now)
  task_follows back (Forward work way) (standing, dir, is, leads) now =
      work_course (λ s es. forward_from s way.from es now) work is
      ∙ sym (course_planned l (record { side = side.At; number = way.from }) standing back now ∙ ap (λ (b : Bool). planned_course side.At way.from l b now) dir)
  task_follows back (Back work way) (standing, is, leads) now =
      work_course (λ s es. back_from s way.from es now) work is ∙ sym (course_planned l (record { side = side.Back; number = way.from }) standing back now)
  task_follows back (Turn work turn) (standing, dir, is, leads) now =
      work_course (λ s es. turned_back_from s turn.here.from es now) work is
      ∙ sym (course_planned l (record { side = side.At; number = turn.here.from }) standing back now ∙ ap (λ (b : Bool). planned_course side.At turn.here.from l b now) dir)

  pub task_ends : (back : Bool) (task : Task) → IsTaskFor l back task → task_end task ≡ end_of l back
  task_ends back (Clear entries paths) (none, entries_are, paths_are) = sym (end_by l None none back)
  task_ends back (Seal items paths) (last, items_are, paths_are) = sym (end_by l (Some Done) last back)
  task_ends back (Undo items paths) (last, items_are, paths_are) = sym (end_by l (Some Undone) last back)
  task_ends back (Forward work way) (standing, dir, is, leads) =
      sym (end_planned l (record { side = side.At; number = way.from }) standing back ∙ ap (λ (b : Bool). planned_end side.At b) dir)
  task_ends back (Back work way) (standing, is, leads) = sym (end_planned l (record { side = side.Back; number = way.from }) standing back)
  task_ends back (Turn work turn) (standing, dir, is, leads) =
      sym (end_planned l (record { side = side.At; number = turn.here.from }) standing back ∙ ap (λ (b : Bool). planned_end side.At b) dir)

  abbrev synced : History
  synced = Then h Sync

  marked : (m : marker.Marker) → l.standing ≡ record { journal = Some Plan; marker = Some m } → (w : Work) → IsWorkFor l w → IsUnderway plan (marker_name m.side m.number) (entries_of w) (current_tree h)
  marked m standing w is = subst (λ (es : List EntryName). IsUnderway plan (marker_name m.side m.number) es (current_tree h)) (sym is.entries) (is_marked h l found m standing)

  pub task_can : (back : Bool) (task : Task) → IsTaskFor l back task → CanCarryOut task synced
  task_can back (Clear entries paths) (none, entries_are, paths_are) =
      subst (λ (cs : List Change). CanAll cs synced) (sym (clear_same l.names.items entries.items paths.staging (entries_are ∙ found.sorted.paths) paths_are.staging_is)) (can_clear h l found none synced refl)
  task_can back (Seal items paths) (last, items_are, paths_are) =
      subst (λ (cs : List Change). CanAll cs synced) (sym (closed_same sealed (other_items l) items.items paths.sealed paths.staging items_are paths_are.sealed_is paths_are.staging_is)) (can_seal h l found last synced refl)
  task_can back (Undo items paths) (last, items_are, paths_are) =
      subst (λ (cs : List Change). CanAll cs synced) (sym (closed_same undone (other_items l) items.items paths.undone paths.staging items_are paths_are.undone_is paths_are.staging_is)) (can_undo h l found last synced refl)
  task_can back (Forward work way) (standing, dir, is, leads) = marked (record { side = side.At; number = way.from }) standing work is
  task_can back (Back work way) (standing, is, leads) = marked (record { side = side.Back; number = way.from }) standing work is
  task_can back (Turn work turn) (standing, dir, is, leads) = marked (record { side = side.At; number = turn.here.from }) standing work is

-- ---- what is answered

task_work : (strange : Option ℕ) (task : Task) → is_worked (unless_strange strange (task_end task)) ≡ true
task_work (Some step) task = refl
task_work None (Clear entries paths) = refl
task_work None (Seal items paths) = refl
task_work None (Undo items paths) = refl
task_work None (Forward work way) = refl
task_work None (Back work way) = refl
task_work None (Turn work turn) = refl

carried : (way : Bool) (begun now : History) (before : FileTree) (ended : RecoverEnd) → is_worked ended ≡ true → IsCarriedOut way begun now ended → Answers way begun now before ended
carried way begun now before end.Nothing work c = absurd (not_both (sym work))
carried way begun now before end.Edited work c = c
carried way begun now before end.Old work c = c
carried way begun now before end.Cleared work c = c
carried way begun now before end.Memory work c = absurd (not_both (sym work))
carried way begun now before (end.TreeFault first) work c = absurd (not_both (sym work))
carried way begun now before (end.BadJournal offset) work c = absurd (not_both (sym work))
carried way begun now before (end.Foreign name) work c = absurd (not_both (sym work))
carried way begun now before (end.Strange step) work c = c

module _ (h now : History) (before behind : FileTree) (l : Leftovers) (found : HasFound h l) (back : Bool) (task : Task) (is : IsTaskFor l back task) where
  same : task_course task (Then h Sync) ≡ course_behind l back h
  same = task_follows h l found back task is (Then h Sync)

  calls_same : (task_course task (Then h Sync)).calls ≡ (course_behind l back h).calls
  calls_same = ap (λ (c : Course). c.calls) same

  pub task_done : (ended : RecoverEnd) → FollowsSynced task h now before behind (Ok ended) → Answers back h now behind ended
  task_done ended follows = carried back h now behind ended
      (ap is_worked follows.ends ∙ task_work (task_course task (Then h Sync)).strange task)
      (record {
        left = l;
        found = found;
        history = follows.ran.0 ∙ ap (λ (cs : List Change). then_all (Then h Sync) cs) calls_same;
        ends = follows.ends ∙ ap (λ (c : Course). unless_strange c.strange (task_end task)) same ∙ ap (λ (e : RecoverEnd). unless_strange (course_behind l back h).strange e) (task_ends h l found back task is);
      })

  pub task_failed : (first : CallName) → FollowsSynced task h now before behind (Err first) → Answers back h now behind (end.TreeFault first)
  task_failed first follows = inr (inr (record {
    left = l;
    found = found;
    where_failed = subst (λ (cs : List Change). FailedIn (Sync ∷ cs) h now behind first ⊎ LookedIn (Sync ∷ cs) h now behind) calls_same follows.ran;
  }))

-- ---- a task behind a sync

module _ (task : Task) (old new : History) (before between behind : FileTree) where
  look_behind : (calls : List Change) → LookedIn calls (Then old Sync) new behind → LookedIn (Sync ∷ calls) old new behind
  look_behind calls looked = record { count = suc looked.count; history = looked.history; tree = looked.tree }

  pub synced_first : (result : Result RecoverEnd CallName) → (mid : History) → mid ≡ Then old Sync → between ≡ before → FollowsTask task mid new between behind result → FollowsSynced task old new before behind result
  synced_first result mid is told follows = by_result result (subst (λ (x : History). FollowsTask task x new between behind result) is follows)
    where
      by_result : (r : Result RecoverEnd CallName) → FollowsTask task (Then old Sync) new between behind r → FollowsSynced task old new before behind r
      by_result (Ok ended) f = record { ran = (f.ran.0, f.ran.1 ∙ told); ends = f.ends }
      by_result (Err first) f = record {
        ran = ⊎_elim (λ failed. inl (inr failed)) (λ looked. inr (look_behind (task_course task (Then old Sync)).calls looked)) f.ran;
        ends = tt;
      }

  pub sync_failed : (first : CallName) → FailedIn (Sync ∷ []) old new behind first → FollowsSynced task old new before behind (Err first)
  sync_failed first failed = record { ran = inl (⊎_elim (λ here. inl here) (λ nothing. absurd nothing) failed); ends = tt }
