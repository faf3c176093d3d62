-- How a run of a commit ends behind a way back.
use Rattle.std.proofs.Common.{inl, inr, ℕ, zero, suc, List, [], ◌∷◌, take, sym, ◌∙◌, ap, subst, Result, Ok, Err}
use Rattle.commit_run.specs.Ends.{Ended, MayStand, Run, end_behind, old_tree}
use Rattle.commit_run.proofs.WayBackLemmas.{LeadsHome}
use Rattle.step_looks.specs.Undoing.{RanOrLooked}
use Rattle.tree_core.specs.declared.node.CallName.{CallName}
use Rattle.tree_core.specs.declared.node.Change.{Change}
use Rattle.tree_core.specs.FileTree.{FileTree}
use Rattle.tree_core.specs.History.{History, Began, Then, IsCrashState, IsCrashStateSince, IsDurable, IsSound, LeavesOnly, clock, current_tree}
use Rattle.tree_core.specs.Runs.{then_all}
use Rattle.tree_core.proofs.Moments.{crash_state-current}
use Rattle.tree_core.proofs.Runs.{IsSafe, safe_all, safe_failed}

-- what a crash leaves now is among what a crash might have left
since_now : (m : ℕ) (h : History) (c : FileTree) → IsCrashState h c → IsCrashStateSince m h c
since_now m (Began t next) c left = left
since_now m (Then h change) c left = inl left

pub stands_now : (P : FileTree → Type 0) (o now : History) → LeavesOnly o now P → IsSound now → P (current_tree now)
stands_now P o now moments sound = moments.each (current_tree now) (since_now (clock o) now (current_tree now) (crash_state-current now sound.allowed))

-- also where the calls end early
safe_take : (o : History) (P : FileTree → Type 0) (h : History) (cs : List Change) (n : ℕ) → IsSafe o P h cs → LeavesOnly o (then_all h (take n cs)) P
safe_take o P h [] zero safe = safe
safe_take o P h [] (suc n) safe = safe
safe_take o P h (c ∷ cs) zero safe = safe.0
safe_take o P h (c ∷ cs) (suc n) safe = safe_take o P (Then h c) cs n safe.2

module _ (run : Run) (now new : History) (cs : List Change) (home : LeadsHome (MayStand run) (old_tree run.begun) run.begun now cs) (sound : IsSound new) where
  pub ended_home : {T : Type 0} (first : CallName) (before after : FileTree) (result : Result T CallName) → RanOrLooked cs now new before after result → Ended run new (end_behind first result)
  ended_home first before after (Ok v) ran = record {
    moments = subst (λ (h : History). LeavesOnly run.begun h (MayStand run)) (sym ran.0) (safe_all run.begun (MayStand run) now cs home.safe);
    stands = (ap current_tree ran.0 ∙ home.is_old, subst IsDurable (sym ran.0) home.durable);
  }
  ended_home first before after (Err second) (inl failed) =
      let moments = safe_failed run.begun (MayStand run) now new after second cs home.safe failed in
      record { moments = moments; stands = stands_now (MayStand run) run.begun new moments sound }
  ended_home first before after (Err second) (inr looked) =
      let moments : LeavesOnly run.begun new (MayStand run) = subst (λ (h : History). LeavesOnly run.begun h (MayStand run)) (sym looked.history) (safe_take run.begun (MayStand run) now cs looked.count home.safe) in
      record { moments = moments; stands = stands_now (MayStand run) run.begun new moments sound }
