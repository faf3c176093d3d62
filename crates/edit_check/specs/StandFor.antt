-- The trees that a check stands for.
use Rattle.std.specs.Prelude.{◌≡◌, true, List, [], Some, None, is_some, IsTrue, Contains}
use Rattle.dired_text.specs.Paths.{Names}
use Rattle.tree_core.specs.FileTree.{FileTree, IsTree}
use Rattle.tree_core.specs.declared.changes.Changes.{Changes}
use Rattle.tree_core.specs.declared.changes.Confirmed.{Confirmed}
use Rattle.edit_check.specs.declared.checked.Checked.{Checked}
use Rattle.edit_words.specs.declared.counts.Counts.{Counts}
use Rattle.edit_words.specs.declared.row.Row.{Row}
use Rattle.edit_words.specs.Counting.{counts_of}
use Rattle.edit_words.specs.Found.{HasFindings, HasLawfulMode, sight_in}
use Rattle.edit_words.specs.Place.{IsAbove}
use Rattle.edit_words.specs.Refusals.{refusal}
use Rattle.edit_words.specs.Rows.{rows}
use Rattle.edit_words.specs.Sight.{Sight, is_dir, sight_of}
use Rattle.edit_rules.specs.Plans.{AreMissing, AreModes, ModeChange, victims_of}
use Rattle.edit_words.specs.WellFormed.{AreAsked, CanBeMade}

-- what a check keeps
abbrev pub changes_in : Checked → Changes
changes_in checked = checked.changes

abbrev pub confirmed_in : Checked → Confirmed
confirmed_in checked = checked.confirmed

abbrev pub counts_in : Checked → Counts
counts_in checked = checked.counts

abbrev pub found_in : Checked → Sight
found_in checked = sight_in checked.findings

-- Whatever tree told it: the changes can be asked for, nothing is refused of what was found, and that is closed upwards: above what
-- was found to stand there are directories. One was found at the root, where there is a new path, and each mode is at most 0o7777.
pub record IsChecked (checked : Checked) : Type 0 where
  pub asked : AreAsked (changes_in checked)
  pub taken : refusal (found_in checked) (confirmed_in checked) (rows (changes_in checked)) ≡ None
  pub above : (p u : Names) → IsTrue (is_some ((found_in checked).at p)) → IsAbove u p → is_dir ((found_in checked).at u) ≡ true
  pub root : (r : Row) (w : Names) → Contains (rows (changes_in checked)) r → r.to ≡ Some w → is_dir ((found_in checked).at []) ≡ true
  pub modes : (p : Names) → HasLawfulMode ((found_in checked).at p)
  pub counted : counts_in checked ≡ counts_of (found_in checked) (rows (changes_in checked))

-- It stands for each tree that has its findings:
abbrev pub StandsFor : Checked → FileTree → Type 0
StandsFor checked t = HasFindings checked.findings (sight_of t)

-- in each of these the changes can be made
abbrev pub CanBeMadeWhereItStands : Checked → Type 0
CanBeMadeWhereItStands checked = (t : FileTree) → IsTree t → StandsFor checked t → CanBeMade t (confirmed_in checked) (rows (changes_in checked))

-- and the counts are theirs
abbrev pub CountedWhereItStands : Checked → Type 0
CountedWhereItStands checked = (t : FileTree) → StandsFor checked t → counts_in checked ≡ counts_of (sight_of t) (rows (changes_in checked))

-- and so are what they replace, the directories that they make and the modes that they change
pub record IsListedFor (checked : Checked) (t : FileTree) : Type 0 where
  pub victims : victims_of (found_in checked) (rows (changes_in checked)) ≡ victims_of (sight_of t) (rows (changes_in checked))
  pub missing : (ps : List Names) → AreMissing (found_in checked) (rows (changes_in checked)) ps → AreMissing (sight_of t) (rows (changes_in checked)) ps
  pub modes : (ms : List ModeChange) → AreModes (found_in checked) (rows (changes_in checked)) ms → AreModes (sight_of t) (rows (changes_in checked)) ms

abbrev pub ListedWhereItStands : Checked → Type 0
ListedWhereItStands checked = (t : FileTree) → StandsFor checked t → IsListedFor checked t
