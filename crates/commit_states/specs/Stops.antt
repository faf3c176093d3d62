-- Where a commit, a way back or a recovery may stand when it stops and is not crashed.
use Rattle.std.specs.Prelude.{◌≡◌, ◌⊎◌, ℕ, ◌+◌, ◌≤◌, List, length}
use Rattle.tree_core.specs.declared.node.Node.{Node}
use Rattle.tree_core.specs.FileTree.{FileTree, IsAbsent, IsDir}
use Rattle.tree_core.specs.History.{History, Began, IsSound, current_tree, next_number, IsCrashState, LeavesOnly}
use Rattle.commit_steps.specs.declared.step.Step.{Step}
use Rattle.commit_steps.specs.Staging.{staging, sealed, undone, new_journal, at_marker, back_marker}
use Rattle.step_trees.specs.Entries.{rest, IsHeld, IsFresh, HoldsOnly}
use Rattle.step_trees.specs.Groups.{groups, to_next_cut, from_last_cut, ComesBySome, left_of, taken_of}
use Rattle.step_trees.specs.Leads.{at_place}
use Rattle.commit_states.specs.Interrupted.{JournalAt, IsOne, StandsAs, IsInterruptedBy}
use Rattle.commit_states.specs.Calls.{turn_place}

-- ---- before the journal has its name

-- the names of a staging directory without a journal
abbrev pub IsEarly : List ℕ → Node → Type 0
IsEarly name node = IsOne new_journal name node ⊎ (IsOne (at_marker 0) name node ⊎ IsFresh name node)

-- the staging directory stands with such names alone
pub record Filling (target t : FileTree) : Type 0 where
  pub dir : IsDir t staging
  pub only : HoldsOnly t IsEarly
  pub is : rest t ≡ target

-- or it doesn't stand yet
abbrev pub IsStaging : FileTree → FileTree → Type 0
IsStaging target t = (IsAbsent t staging × (t ≡ target)) ⊎ Filling target t

-- So it is of the tree that reads, and of all that a crash may leave now. The rest is the target: the old tree, or in a recovery the
-- edited one. Since a run began nothing was left but interrupted trees.
pub record Unplanned (Text : List ℕ → Type 0) (steps : List Step) (old new : FileTree) (fresh : List Node) (target : FileTree) (began now : History) : Type 0 where
  pub moments : LeavesOnly began now (IsInterruptedBy Text steps old new fresh)
  pub sound : IsSound now
  pub reads : IsStaging target (current_tree now)
  pub each : (c : FileTree) → IsCrashState now c → IsSound (Began c (next_number now)) × IsStaging target c

-- ---- with the journal

-- `plan` and `at-m` stand, and any of the steps from m to the next cut are done. Since a run began nothing was left but
-- interrupted trees.
pub record Halted (Text : List ℕ → Type 0) (steps : List Step) (old new : FileTree) (fresh : List Node) (began now : History) : Type 0 where
  pub m : ℕ
  pub u : FileTree
  pub le : m ≤ length steps
  pub comes : ComesBySome (to_next_cut m (groups steps)) (at_place steps old fresh m) u
  pub stands : StandsAs Text (at_marker m) u (current_tree now)
  pub moments : LeavesOnly began now (IsInterruptedBy Text steps old new fresh)
  pub sound : IsSound now

-- those of these steps that are still to be done, and those that were
abbrev pub still_left : {Text : List ℕ → Type 0} {steps : List Step} {old new : FileTree} {fresh : List Node} {began now : History} → Halted Text steps old new fresh began now → List Step
still_left {steps = steps} {old = old} {fresh = fresh} h = left_of (to_next_cut h.m (groups steps)) (at_place steps old fresh h.m) h.u h.comes

abbrev pub already_done : {Text : List ℕ → Type 0} {steps : List Step} {old new : FileTree} {fresh : List Node} {began now : History} → Halted Text steps old new fresh began now → List Step
already_done {steps = steps} {old = old} {fresh = fresh} h = taken_of (to_next_cut h.m (groups steps)) (at_place steps old fresh h.m) h.u h.comes

-- `plan` and `back-m` stand, and any of the steps from the last cut, k, to m are done.
pub record Turned (Text : List ℕ → Type 0) (steps : List Step) (old new : FileTree) (fresh : List Node) (began now : History) : Type 0 where
  pub k : ℕ
  pub m : ℕ
  pub u : FileTree
  pub le : m ≤ length steps
  pub cut : m ≡ k + length (from_last_cut m (groups steps))
  pub comes : ComesBySome (from_last_cut m (groups steps)) (at_place steps old fresh k) u
  pub stands : StandsAs Text (back_marker m) u (current_tree now)
  pub moments : LeavesOnly began now (IsInterruptedBy Text steps old new fresh)
  pub sound : IsSound now

-- those of these steps that are to be undone
abbrev pub to_undo : {Text : List ℕ → Type 0} {steps : List Step} {old new : FileTree} {fresh : List Node} {began now : History} → Turned Text steps old new fresh began now → List Step
to_undo {steps = steps} {old = old} {fresh = fresh} b = taken_of (from_last_cut b.m (groups steps)) (at_place steps old fresh b.k) b.u b.comes

-- From `at-m` the marker turns round, at m if none of the steps from m to the next cut was done, and else at that cut. From the last
-- cut before that place, k, to it some steps were done.
pub record TurnsRound (steps : List Step) (old : FileTree) (fresh : List Node) (m : ℕ) (u : FileTree) (taken : List Step) : Type 0 where
  pub j : ℕ
  pub j_is : j ≡ turn_place steps m taken
  pub k : ℕ
  pub cut : j ≡ k + length (from_last_cut j (groups steps))
  pub comes : ComesBySome (from_last_cut j (groups steps)) (at_place steps old fresh k) u

abbrev pub to_undo_behind : {steps : List Step} {old : FileTree} {fresh : List Node} {m : ℕ} {u : FileTree} {taken : List Step} → TurnsRound steps old fresh m u taken → List Step
to_undo_behind {steps = steps} {old = old} {fresh = fresh} {u = u} t = taken_of (from_last_cut t.j (groups steps)) (at_place steps old fresh t.k) u t.comes

-- `done` stands: other names are among `hN` and `at-n`, and the rest is the edited tree.
pub record BehindSeal (Text : List ℕ → Type 0) (steps : List Step) (old new : FileTree) (fresh : List Node) (began now : History) : Type 0 where
  pub dir : IsDir (current_tree now) staging
  pub journal : JournalAt Text (current_tree now) sealed
  pub only : HoldsOnly (current_tree now) (λ name node. (name ≡ sealed) ⊎ (IsHeld (current_tree now) name node ⊎ IsOne (at_marker (length steps)) name node))
  pub is : rest (current_tree now) ≡ new
  pub moments : LeavesOnly began now (IsInterruptedBy Text steps old new fresh)
  pub sound : IsSound now

-- `undone` stands: other names are among `fN` and `back-0`, and the rest is the old tree.
pub record AllUndone (Text : List ℕ → Type 0) (steps : List Step) (old new : FileTree) (fresh : List Node) (began now : History) : Type 0 where
  pub dir : IsDir (current_tree now) staging
  pub journal : JournalAt Text (current_tree now) undone
  pub only : HoldsOnly (current_tree now) (λ name node. (name ≡ undone) ⊎ (IsFresh name node ⊎ IsOne (back_marker 0) name node))
  pub is : rest (current_tree now) ≡ old
  pub moments : LeavesOnly began now (IsInterruptedBy Text steps old new fresh)
  pub sound : IsSound now
