-- Code that follows a course that leads home.
use Rattle.std.proofs.Common.{◌⊎◌, inr, ⊎_elim, ℕ, zero, suc, ◌≤◌, List, [], ◌∷◌, take, sym, ◌∙◌, ap, subst, arith, Option, Result, Ok, Err}
use Rattle.commit_states.specs.Interrupted.{IsOfKind, IsInterruptedBy}
use Rattle.recovery_courses.specs.Course.{Course, Follows}
use Rattle.recovery_courses.specs.Laws.{LeadsHome, ComesHome, FollowersComeHome}
use Rattle.step_looks.specs.Undoing.{LookedIn}
use Rattle.tree_core.specs.declared.node.CallName.{CallName}
use Rattle.tree_core.specs.declared.node.Change.{Change}
use Rattle.tree_core.specs.declared.node.Change.TheVariants.{Sync}
use Rattle.tree_core.specs.FileTree.{FileTree}
use Rattle.tree_core.specs.History.{History, Then, IsDurable, LeavesOnly, clock, current_tree}
use Rattle.tree_core.specs.Runs.{then_all, FailedIn}

-- ---- what a crash leaves before the last call

module _ (began : History) (P : FileTree → Type 0) where
  before_one : (h : History) (change : Change) → clock began ≤ clock h → LeavesOnly began (Then h change) P → LeavesOnly began h P
  before_one h change le moments = record {
    later = le;
    each = λ c left. moments.each c (inr (le, left));
    before = λ m c low left. moments.before m c low (inr (omega (arith, le, low), left));
  }

  before_all : (h : History) (changes : List Change) → clock began ≤ clock h → LeavesOnly began (then_all h changes) P → LeavesOnly began h P
  before_all h [] le moments = moments
  before_all h (change ∷ changes) le moments = before_one h change le (before_all (Then h change) changes (omega (arith, le)) moments)

  pub on_the_way : (k : ℕ) (h : History) (changes : List Change) → clock began ≤ clock h → LeavesOnly began (then_all h changes) P → LeavesOnly began (then_all h (take k changes)) P
  on_the_way zero h changes le moments = before_all h changes le moments
  on_the_way (suc k) h [] le moments = moments
  on_the_way (suc k) h (change ∷ changes) le moments = on_the_way k (Then h change) changes (omega (arith, le)) moments

-- ---- by what it answers

module _ (P : FileTree → Type 0) (target : FileTree) (began now last : History) (before behind : FileTree) (course : History → Course) (so_far : LeavesOnly began now P) (home : LeadsHome P target began now course) where
  abbrev synced : History
  synced = Then now Sync

  abbrev calls : List Change
  calls = (course synced).calls

  looked : LookedIn calls synced last behind → LeavesOnly began last P
  looked l = let le = so_far.later in subst (λ (h : History). LeavesOnly began h P) (sym l.history) (on_the_way began P l.count synced calls (omega (arith, le)) home.leads.moments)

  pub comes_home : (result : Result (Option ℕ) CallName) → Follows (course synced) synced last before behind result → ComesHome P target began last result
  comes_home (Ok strange) f = record {
    moments = subst (λ (h : History). LeavesOnly began h P) (sym f.ran.0) home.leads.moments;
    home = (f.strange ∙ home.lawful, ap current_tree f.ran.0 ∙ home.leads.target_stands, subst IsDurable (sym f.ran.0) home.leads.durable);
  }
  comes_home (Err first) f = record { moments = ⊎_elim (λ (failed : FailedIn calls synced last behind first). home.leads.failed last behind first (inr failed)) (λ l. looked l) f.ran; home = tt }

pub followers_come_home : FollowersComeHome
followers_come_home kind steps old new fresh target began now last before behind course result so_far home follows =
    comes_home (IsInterruptedBy (IsOfKind kind steps) steps old new fresh) target began now last before behind course so_far home result follows
