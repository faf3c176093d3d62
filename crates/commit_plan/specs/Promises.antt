-- What a plan of checked changes promises in each tree that the check stands for.
use Rattle.std.specs.Prelude.{◌≡◌, List, length, IfSome}
use Rattle.std.specs.List.{flat_map}
use Rattle.std.specs.Set.{unique_keys}
use Rattle.dired_text.specs.Paths.{Names, AreNames}
use Rattle.tree_core.specs.declared.node.Node.{Node}
use Rattle.tree_core.specs.FileTree.{FileTree, IsTree, IsFile}
use Rattle.commit_steps.specs.declared.step.Step.{Step}
use Rattle.edit_words.specs.declared.row.Row.{Row}
use Rattle.edit_words.specs.Edited.{AreMadeFor, edited}
use Rattle.edit_words.specs.Refusals.{missing_above}
use Rattle.edit_words.specs.Rows.{rows, is_same_path}
use Rattle.edit_words.specs.Sight.{Sight, sight_of}
use Rattle.edit_words.specs.WellFormed.{LinksHaveFiles}
use Rattle.edit_check.specs.declared.checked.Checked.{Checked}
use Rattle.edit_check.specs.StandFor.{StandsFor, changes_in}
use Rattle.step_trees.specs.Leads.{Leads}
use Rattle.plan_moves.specs.Least.{IsLeast}
use Rattle.plan_moves.specs.Plan.{step_count}

-- an old tree of checked changes: the check stands for it, and files stand at the paths of hard links
pub record IsOldTree (checked : Checked) (t : FileTree) : Type 0 where
  pub tree : IsTree t
  pub found : StandsFor checked t
  pub files : LinksHaveFiles (IsFile t) (changes_in checked)

-- The steps lead from each old tree to its edited one, with whatever entries are made for the changes.
abbrev pub LeadToEdited : Checked → List Step → Type 0
LeadToEdited checked steps =
    (t : FileTree) (made : List Node) → IsOldTree checked t → AreMadeFor t (changes_in checked) made
    → Leads steps t (edited t (rows (changes_in checked)) made) made

-- the directories that have to be made, each once
abbrev pub missing_once : Sight → List Row → List Names
missing_once sight rs = unique_keys is_same_path (flat_map (missing_above sight) rs)

-- They are as many as a tree of the check and the changes say,
abbrev pub AreCounted : Checked → List Step → Type 0
AreCounted checked steps =
    (t : FileTree) → StandsFor checked t
    → length steps ≡ step_count (sight_of t) (rows (changes_in checked)) (missing_once (sight_of t) (rows (changes_in checked)))

-- and no list of renames that does what edits in one directory do is shorter.
abbrev pub AreLeast : Checked → List Step → Type 0
AreLeast checked steps = (t : FileTree) → IsOldTree checked t → IsLeast t (rows (changes_in checked)) (length steps)

-- source and new path are of lawful names
abbrev pub HasNames : Row → Type 0
HasNames r = IfSome r.source AreNames × IfSome r.to AreNames
