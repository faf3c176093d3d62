-- What the tests say, and what they tell of an interrupted tree, as statements.
use Rattle.std.specs.Prelude.{◌≡◌, ◌↔◌, ◌⊎◌, ℕ, ◌+◌, ◌≤◌, Bool, true, false, List, [], ◌∷◌, length, reverse, None, IsTrue}
use Rattle.std.specs.List.{AllByRecursion}
use Rattle.tree_core.specs.declared.node.Node.{Node}
use Rattle.tree_core.specs.FileTree.{FileTree, IsTree, IsDir, IsEmptyAt}
use Rattle.commit_steps.specs.declared.step.Step.{Step}
use Rattle.commit_steps.specs.declared.step.Step.TheVariants.{MakeDir, Rename, Mode}
use Rattle.commit_steps.specs.Staging.{plan, at_marker, back_marker}
use Rattle.commit_steps.specs.Steps.{HasPaths}
use Rattle.step_trees.specs.Steps.{IsBefore, IsAfter}
use Rattle.step_trees.specs.Groups.{groups, to_next_cut, from_last_cut, ComesBySome, left_of, taken_of}
use Rattle.step_trees.specs.Leads.{at_place, Leads}
use Rattle.commit_states.specs.Interrupted.{bare}
use Rattle.step_looks.specs.Looks.{is_before, is_after, can_go_back}
use Rattle.step_looks.specs.Redoing.{to_redo, strange_redo}
use Rattle.step_looks.specs.Strictly.{to_undo_strictly, strange_back, strange_look}
use Rattle.step_looks.specs.Undoing.{to_undo, any_goes_back}

-- the step was done, and a directory that it made is empty
abbrev pub CanGoBack : Step → FileTree → Type 0
CanGoBack (MakeDir p) t = IsDir t p × IsEmptyAt t p
CanGoBack (Rename from to) t = IsAfter (Rename from to) t
CanGoBack (Mode p old new) t = IsAfter (Mode p old new) t

-- Each test holds exactly where what it tests does.
abbrev pub TestsAreRight : Type 0
TestsAreRight = (step : Step) (t : FileTree) → (IsTrue (is_before step t) ↔ IsBefore step t) × ((IsTrue (is_after step t) ↔ IsAfter step t) × (IsTrue (can_go_back step t) ↔ CanGoBack step t))

-- ---- an interrupted tree

-- the name of a marker of either way
abbrev pub IsMarker : List ℕ → Type 0
IsMarker name = (m : ℕ) × ((name ≡ at_marker m) ⊎ (name ≡ back_marker m))

-- u is the tree t without its journal and its marker
pub record IsBare (marker : List ℕ) (u t : FileTree) : Type 0 where
  pub tree : IsTree t
  pub marker_named : IsMarker marker
  pub is : bare plan marker t ≡ u

abbrev pub holds_some : List Step → Bool
holds_some [] = false
holds_some (s ∷ steps) = true

-- Of the steps g, of which some were done, those are undone, and looks tell whether there are any.
pub record TellsDone (g : List Step) (a u t : FileTree) (some : ComesBySome g a u) : Type 0 where
  pub undo : to_undo g t ≡ taken_of g a u some
  pub any : any_goes_back g t ≡ holds_some (taken_of g a u some)

-- From a place to the next cut behind it,
abbrev pub LooksTellOnTheWay : Type 0
LooksTellOnTheWay =
    (steps : List Step) (old new : FileTree) (fresh : List Node) → Leads steps old new fresh → AllByRecursion HasPaths steps → (m : ℕ) → m ≤ length steps
    → (marker : List ℕ) (u t : FileTree) (some : ComesBySome (to_next_cut m (groups steps)) (at_place steps old fresh m) u) → IsBare marker u t
    → TellsDone (to_next_cut m (groups steps)) (at_place steps old fresh m) u t some

-- and from the last cut before a place, k, to it.
abbrev pub LooksTellOnTheWayBack : Type 0
LooksTellOnTheWayBack =
    (steps : List Step) (old new : FileTree) (fresh : List Node) → Leads steps old new fresh → AllByRecursion HasPaths steps → (k m : ℕ) → m ≤ length steps
    → m ≡ k + length (from_last_cut m (groups steps))
    → (marker : List ℕ) (u t : FileTree) (some : ComesBySome (from_last_cut m (groups steps)) (at_place steps old fresh k) u) → IsBare marker u t
    → TellsDone (from_last_cut m (groups steps)) (at_place steps old fresh k) u t some

-- ---- none is strange

-- Of the steps g, of which some were done, a look tells of each whether it was done, whatever numbers they have: those that were not
-- are done, and those that were are undone.
pub record TellsAll (g : List Step) (a u t : FileTree) (some : ComesBySome g a u) : Type 0 where
  pub redo : to_redo g t ≡ left_of g a u some
  pub redo_strange : (k : ℕ) → strange_redo k g t ≡ None
  pub undo : to_undo_strictly (reverse g) t ≡ taken_of g a u some
  pub undo_strange : (k : ℕ) → strange_back k (reverse g) t ≡ None
  pub look_strange : (k : ℕ) → strange_look k g t ≡ None

-- From a place to the next cut behind it,
abbrev pub NoneIsStrangeOnTheWay : Type 0
NoneIsStrangeOnTheWay =
    (steps : List Step) (old new : FileTree) (fresh : List Node) → Leads steps old new fresh → AllByRecursion HasPaths steps → (m : ℕ) → m ≤ length steps
    → (marker : List ℕ) (u t : FileTree) (some : ComesBySome (to_next_cut m (groups steps)) (at_place steps old fresh m) u) → IsBare marker u t
    → TellsAll (to_next_cut m (groups steps)) (at_place steps old fresh m) u t some

-- and from the last cut before a place, k, to it.
abbrev pub NoneIsStrangeOnTheWayBack : Type 0
NoneIsStrangeOnTheWayBack =
    (steps : List Step) (old new : FileTree) (fresh : List Node) → Leads steps old new fresh → AllByRecursion HasPaths steps → (k m : ℕ) → m ≤ length steps
    → m ≡ k + length (from_last_cut m (groups steps))
    → (marker : List ℕ) (u t : FileTree) (some : ComesBySome (from_last_cut m (groups steps)) (at_place steps old fresh k) u) → IsBare marker u t
    → TellsAll (from_last_cut m (groups steps)) (at_place steps old fresh k) u t some
