-- What stands tells the row of the table, the place of the marker and the steps.
use Rattle.std.specs.Prelude.{◌≡◌, ℕ, List}
use Rattle.tree_core.specs.declared.node.Node.{Node}
use Rattle.tree_core.specs.FileTree.{FileTree, IsTree}
use Rattle.commit_steps.specs.declared.step.Step.{Step}
use Rattle.commit_states.specs.Interrupted.{JournalKind, IsOfKind, IsInterruptedBy, nothing_staged, no_journal, forward, back, behind_seal, all_undone}

-- a row, with the place of its marker
pub data Phase : Type 0 where
  Unstaged : Phase
  Filling : Phase
  Forward : ℕ → Phase
  Back : ℕ → Phase
  Sealed : Phase
  Undone : Phase

abbrev pub phase_of : {Text : List ℕ → Type 0} {steps : List Step} {old new : FileTree} {fresh : List Node} {t : FileTree} → IsInterruptedBy Text steps old new fresh t → Phase
phase_of (nothing_staged none which) = Unstaged
phase_of (no_journal dir only which) = Filling
phase_of (forward leads m u le some stands) = Forward m
phase_of (back leads k m u le cut some stands) = Back m
phase_of (behind_seal leads dir journal only is) = Sealed
phase_of (all_undone leads dir journal only is) = Undone

-- A tree is in one row at most, and its marker at one place, whatever the steps and the trees are,
abbrev pub RowsExclude : Type 0
RowsExclude =
    (t : FileTree) → IsTree t → (kind other_kind : JournalKind) (steps also : List Step)
    (old new before edited : FileTree) (fresh other : List Node) (r : IsInterruptedBy (IsOfKind kind steps) steps old new fresh t) (s : IsInterruptedBy (IsOfKind other_kind also) also before edited other t) → phase_of r ≡ phase_of s

abbrev pub HasJournal : Phase → Type 0
HasJournal Unstaged = ⊥
HasJournal Filling = ⊥
HasJournal (Forward m) = Unit {0}
HasJournal (Back m) = Unit {0}
HasJournal Sealed = Unit {0}
HasJournal Undone = Unit {0}

-- and where a journal stands the steps are those of one list.
abbrev pub JournalsTell : Type 0
JournalsTell =
    (t : FileTree) → IsTree t → (kind other_kind : JournalKind) (steps also : List Step)
    (old new before edited : FileTree) (fresh other : List Node) (r : IsInterruptedBy (IsOfKind kind steps) steps old new fresh t) (s : IsInterruptedBy (IsOfKind other_kind also) also before edited other t) → HasJournal (phase_of r) → steps ≡ also
