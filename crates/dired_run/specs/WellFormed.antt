-- What a run can carry out.
use Rattle.std.specs.Prelude.{◌≡◌, ◌⊎◌, ◌≤◌, ◌^◌, ℕ, Bool, List, length, Some, None, Ok}
use Rattle.dired_text.specs.Paths.{Names}
use Rattle.tree_core.specs.declared.changes.Changes.TheVariants.{Edits}
use Rattle.tree_core.specs.declared.changes.Confirmed.{Confirmed}
use Rattle.tree_core.specs.declared.edit.Edit.{Edit}
use Rattle.tree_core.specs.declared.node.Node.{Node}
use Rattle.tree_core.specs.FileTree.{FileTree, IsAbsent, IsTree}
use Rattle.commit_states.specs.Interrupted.{IsInterrupted}
use Rattle.commit_steps.specs.declared.step.Step.{Step}
use Rattle.commit_steps.specs.Staging.{staging}
use Rattle.listing_text.specs.declared.switches.Switches.{Switches}
use Rattle.subdir_list.specs.Listings.{first_other}
use Rattle.wdired_buffer.specs.declared.line.BufferLine.{BufferLine}
use Rattle.wdired_buffer.specs.Buffer.{buffer_of}
use Rattle.wdired_buffer.specs.Edits.{Asks, edits_of}
use Rattle.command_words.specs.declared.command.Command.TheVariants as command
use Rattle.command_words.specs.Commands.{command_of}
use Rattle.edit_words.specs.Rows.{rows}
use Rattle.edit_words.specs.WellFormed.{CanBeMade, max_changes}
use Rattle.dired_run.specs.Inputs.{Files, max_buffer_bytes}

-- edits that the tree allows, with these confirmations
pub record AreAllowed (edits : List Edit) (confirmed : Confirmed) (t : FileTree) : Type 0 where
  pub few : length edits ≤ max_changes
  pub can_be_made : CanBeMade t confirmed (rows (Edits edits))

-- The words are those of a commit, both inputs are there and within the limit, BEFORE is a buffer, and AFTER asks for edits that
-- the tree allows. Names may be emptied.
pub record CanCommit (words : List (List ℕ)) (files : Files) (t : FileTree) : Type 0 where
  pub all : Bool
  pub before_name : List ℕ
  pub after_name : List ℕ
  pub confirmed : List Names
  pub before : List ℕ
  pub after : List ℕ
  pub lines : List BufferLine
  pub asks : Asks
  pub words_are : command_of words ≡ Ok (command.Commit all before_name after_name confirmed)
  pub before_held : files before_name ≡ Some before
  pub after_held : files after_name ≡ Some after
  pub before_short : length before ≤ max_buffer_bytes
  pub after_short : length after ≤ max_buffer_bytes
  pub form : buffer_of before ≡ Ok lines
  pub edits : edits_of lines after ≡ Ok asks
  pub allowed : AreAllowed asks.edits (record { all = all; paths = confirmed }) t

-- The words are those of a listing, and each path that they name is a directory.
pub record CanList (words : List (List ℕ)) (t : FileTree) : Type 0 where
  pub switches : Switches
  pub dirs : List Names
  pub words_are : command_of words ≡ Ok (command.List switches dirs)
  pub stand : first_other t dirs ≡ None

-- The words are those of a recovery, and the tree may stand where a commit was stopped.
pub record CanRecover (words : List (List ℕ)) (t : FileTree) : Type 0 where
  pub back : Bool
  pub steps : List Step
  pub old : FileTree
  pub new : FileTree
  pub fresh : List Node
  pub words_are : command_of words ≡ Ok (command.Recover back)
  pub tree : IsTree old
  pub unstaged : IsAbsent old staging
  pub few : length fresh ≤ 2 ^ 32
  pub interrupted : IsInterrupted steps old new fresh t

-- The words are those of a drill, for which the tree doesn't matter.
pub record CanDrill (words : List (List ℕ)) : Type 0 where
  pub groups : ℕ
  pub words_are : command_of words ≡ Ok (command.Drill groups)

abbrev pub IsWellFormed : List (List ℕ) → Files → FileTree → Type 0
IsWellFormed words files t = CanCommit words files t ⊎ (CanList words t ⊎ (CanRecover words t ⊎ CanDrill words))
