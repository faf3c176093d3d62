-- What may stand where a commit was stopped: for its steps, an old tree, an edited one and the fresh entries.
use Rattle.std.specs.Prelude.{◌≡◌, ◌⊎◌, ℕ, ◌+◌, ◌≤◌, Bool, true, false, List, length, Some}
use Rattle.std.specs.FinMap.{get}
use Rattle.tree_core.specs.declared.node.Node.{Node}
use Rattle.tree_core.specs.declared.node.Node.TheVariants.{Dir, Link, File}
use Rattle.tree_core.specs.FileTree.{FileTree, IsAbsent, IsDir, IsFile}
use Rattle.commit_steps.specs.declared.step.Step.{Step}
use Rattle.commit_steps.specs.Staging.{staging, staged, plan, sealed, undone, new_journal, at_marker, back_marker}
use Rattle.commit_journal.specs.declared.version.Version.TheVariants.{Two}
use Rattle.commit_journal.specs.Grammar.{IsJournal, IsJournalOf}
use Rattle.step_trees.specs.Entries.{without, rest, IsFresh, IsHeld, HoldsOnly}
use Rattle.step_trees.specs.Groups.{groups, to_next_cut, from_last_cut, ComesBySome}
use Rattle.step_trees.specs.Leads.{at_place, Leads}

-- ---- journals and markers

unfoldable pub max_journal_bytes : ℕ
max_journal_bytes = 1_073_741_824

-- a journal of these steps, of either version, which is not too long to be read
pub record IsJournalText (steps : List Step) (bytes : List ℕ) : Type 0 where
  pub journal : IsJournal steps bytes
  pub short : length bytes ≤ max_journal_bytes

-- what a commit writes: a journal of version 2, which is not too long to be read
pub record IsWritten (steps : List Step) (bytes : List ℕ) : Type 0 where
  pub journal : IsJournalOf Two steps bytes
  pub short : length bytes ≤ max_journal_bytes

-- the journals that a recovery reads, and those that a commit writes
pub data JournalKind : Type 0 where
  Read : JournalKind
  Written : JournalKind

abbrev pub IsOfKind : JournalKind → List Step → List ℕ → Type 0
IsOfKind Read steps = IsJournalText steps
IsOfKind Written steps = IsWritten steps

-- A definition that takes Text is for whatever bytes a journal may have. These are journals of the steps.
abbrev pub AreJournals : (List ℕ → Type 0) → List Step → Type 0
AreJournals Text steps = (bytes : List ℕ) → Text bytes → IsJournalText steps bytes

-- a journal stands under this name, as a file
pub record JournalAt (Text : List ℕ → Type 0) (t : FileTree) (name : List ℕ) : Type 0 where
  pub number : ℕ
  pub bytes : List ℕ
  pub mode : ℕ
  pub stands : get t (staged name) ≡ Some (File number bytes mode)
  pub spelled : Text bytes

abbrev pub IsFileNode : Node → Type 0
IsFileNode (Dir mode) = ⊥
IsFileNode (Link target) = ⊥
IsFileNode (File number bytes mode) = Unit {0}

-- a file of this one name
pub record IsOne (one name : List ℕ) (node : Node) : Type 0 where
  pub named : name ≡ one
  pub kind : IsFileNode node

-- the tree without its journal and its marker
abbrev pub bare : List ℕ → List ℕ → FileTree → FileTree
bare journal marker t = without (staged journal) (without (staged marker) t)

-- `plan` and a marker stand, and without them the tree is u
pub record StandsAs (Text : List ℕ → Type 0) (marker : List ℕ) (u t : FileTree) : Type 0 where
  pub journal : JournalAt Text t plan
  pub marked : IsFile t (staged marker)
  pub bare_is : bare plan marker t ≡ u

-- u is the tree after j steps
abbrev pub StandsAfter : (List ℕ → Type 0) → List Step → FileTree → List Node → List ℕ → ℕ → FileTree → Type 0
StandsAfter Text steps old fresh marker j t = StandsAs Text marker (at_place steps old fresh j) t

-- ---- the table

-- The tree t may stand where a commit of these steps from old to new was stopped. What stands in the staging directory tells the
-- row, and where a journal stands it is a Text.
pub data IsInterruptedBy (Text : List ℕ → Type 0) (steps : List Step) (old new : FileTree) (fresh : List Node) (t : FileTree) : Type 0 where
  -- no staging directory: the tree is old or new
  nothing_staged : IsAbsent t staging → (t ≡ old) ⊎ (t ≡ new) → IsInterruptedBy Text steps old new fresh t
  -- no journal: names are among `new`, `at-0` and the `fN`; the rest is old or new
  no_journal : IsDir t staging
      → HoldsOnly t (λ name node. IsOne new_journal name node ⊎ (IsOne (at_marker 0) name node ⊎ IsFresh name node))
      → (rest t ≡ old) ⊎ (rest t ≡ new) → IsInterruptedBy Text steps old new fresh t
  -- `plan` and `at-m`: without them, the tree after m steps with any of those done that lie between m and the next cut behind it
  forward : Leads steps old new fresh → (m : ℕ) (u : FileTree) → m ≤ length steps
      → ComesBySome (to_next_cut m (groups steps)) (at_place steps old fresh m) u
      → StandsAs Text (at_marker m) u t → IsInterruptedBy Text steps old new fresh t
  -- `plan` and `back-m`: without them, the tree after k steps with any of those done that lie between k and m, where k is the last
  -- cut before m
  back : Leads steps old new fresh → (k m : ℕ) (u : FileTree) → m ≤ length steps → m ≡ k + length (from_last_cut m (groups steps))
      → ComesBySome (from_last_cut m (groups steps)) (at_place steps old fresh k) u
      → StandsAs Text (back_marker m) u t → IsInterruptedBy Text steps old new fresh t
  -- `done`: other names are among `hN` and `at-n`; the rest is new
  behind_seal : Leads steps old new fresh → IsDir t staging → JournalAt Text t sealed
      → HoldsOnly t (λ name node. (name ≡ sealed) ⊎ (IsHeld t name node ⊎ IsOne (at_marker (length steps)) name node))
      → rest t ≡ new → IsInterruptedBy Text steps old new fresh t
  -- `undone`: other names are among `fN` and `back-0`; the rest is old
  all_undone : Leads steps old new fresh → IsDir t staging → JournalAt Text t undone
      → HoldsOnly t (λ name node. (name ≡ undone) ⊎ (IsFresh name node ⊎ IsOne (back_marker 0) name node))
      → rest t ≡ old → IsInterruptedBy Text steps old new fresh t

-- The same where a journal may be of either version, as a recovery finds it,
abbrev pub IsInterrupted : List Step → FileTree → FileTree → List Node → FileTree → Type 0
IsInterrupted steps old new fresh t = IsInterruptedBy (IsJournalText steps) steps old new fresh t

-- and for whatever steps.
abbrev pub IsInterruptedCommit : FileTree → FileTree → List Node → FileTree → Type 0
IsInterruptedCommit old new fresh t = (steps : List Step) × IsInterrupted steps old new fresh t

-- The tree with which a recovery ends, by the row and the direction (`true`: back). Where no journal stands it is the rest that
-- stood.
abbrev pub ending : {Text : List ℕ → Type 0} {steps : List Step} {old new : FileTree} {fresh : List Node} {t : FileTree} → Bool → IsInterruptedBy Text steps old new fresh t → FileTree
ending {t = t} way (nothing_staged none which) = t
ending {t = t} way (no_journal dir only which) = rest t
ending {new = new} false (forward leads m u le some stands) = new
ending {old = old} true (forward leads m u le some stands) = old
ending {old = old} way (back leads k m u le cut some stands) = old
ending {new = new} way (behind_seal leads dir journal only is) = new
ending {old = old} way (all_undone leads dir journal only is) = old

-- an interrupted tree from which a recovery in this direction ends with the edited tree
abbrev pub LeadsToNew : (List ℕ → Type 0) → List Step → FileTree → FileTree → List Node → Bool → FileTree → Type 0
LeadsToNew Text steps old new fresh way t = (row : IsInterruptedBy Text steps old new fresh t) × (ending way row ≡ new)

-- in the direction forward
abbrev pub GoesForward : (List ℕ → Type 0) → List Step → FileTree → FileTree → List Node → FileTree → Type 0
GoesForward Text steps old new fresh t = LeadsToNew Text steps old new fresh false t

-- In either direction, and but for the staging directory the edited tree stands already.
pub record ReadsNew (Text : List ℕ → Type 0) (steps : List Step) (old new : FileTree) (fresh : List Node) (t : FileTree) : Type 0 where
  pub leads : (way : Bool) → LeadsToNew Text steps old new fresh way t
  pub is : rest t ≡ new
