-- What a commit may replace.
use Rattle.std.specs.Prelude.{◌≡◌, ◌⊎◌, ℕ, true, false, List, Option, Some, None, Result, Ok, Err, Contains}
use Rattle.std.specs.FinMap.{get}
use Rattle.dired_text.specs.Paths.{Names}
use Rattle.tree_core.specs.declared.changes.Changes.TheVariants.{Edits}
use Rattle.tree_core.specs.declared.node.Node.{Node}
use Rattle.tree_core.specs.FileTree.{FileTree, Stands}
use Rattle.command_words.specs.declared.command.Command.{Command}
use Rattle.command_words.specs.declared.command.Command.TheVariants as command
use Rattle.command_words.specs.declared.command.WordsFault.{WordsFault}
use Rattle.command_words.specs.Commands.{command_of}
use Rattle.edit_laws.specs.Laws.{is_retargeted}
use Rattle.edit_words.specs.declared.row.Row.{Row}
use Rattle.edit_words.specs.Edited.{with_new_mode}
use Rattle.edit_words.specs.Place.{place}
use Rattle.edit_words.specs.Refusals.{is_confirmed}
use Rattle.edit_words.specs.Rows.{route_of, rows}
use Rattle.edit_words.specs.WellFormed.{IsVictimOf}
use Rattle.dired_run.specs.declared.requests.Request.{Request}
use Rattle.run_status.specs.declared.status.Status.{Status}
use Rattle.run_status.specs.declared.status.Status.TheVariants.{Done, WriteFault}
use Rattle.dired_run.specs.Inputs.{Files}
use Rattle.dired_run.specs.Requests.{Asked, request_of}

-- all was done, though its lines may not have been written
abbrev pub IsDoneOrHeld : Status → Type 0
IsDoneOrHeld status = (status ≡ Done) ⊎ (status ≡ WriteFault 0)

abbrev pub taken_of : Asked → Option Request
taken_of (Err status) = None
taken_of (Ok request) = Some request

abbrev pub requested_in : Result Command WordsFault → Files → Option Request
requested_in (Err fault) files = None
requested_in (Ok (command.Commit all before after confirmed)) files = taken_of (request_of files before after (record { all = all; paths = confirmed }))
requested_in (Ok (command.List switches dirs)) files = None
requested_in (Ok (command.Recover back)) files = None
requested_in (Ok (command.Drill groups)) files = None

-- what the words of a commit and its inputs ask for, if they are taken
abbrev pub requested_by : List (List ℕ) → Files → Option Request
requested_by words files = requested_in (command_of words) files

abbrev pub rows_of : Request → List Row
rows_of request = rows (Edits request.edits)

-- p is replaced by the new path of an edit, and that is confirmed
abbrev pub IsConfirmedVictim : Request → FileTree → Names → Type 0
IsConfirmedVictim request old p = (r : Row) × Contains (rows_of request) r × IsVictimOf old (rows_of request) r p × (is_confirmed request.confirmed p ≡ true)

-- Something stands at the new place of a path, and this entry with its new mode, unless it is a link that gets another target.
pub record IsPreserved (request : Request) (old new : FileTree) (p : Names) (node : Node) : Type 0 where
  pub stands : Stands new (place (route_of (rows_of request)) p)
  pub own : is_retargeted (rows_of request) p ≡ false → get new (place (route_of (rows_of request)) p) ≡ Some (with_new_mode old (rows_of request) p node)

-- But for the confirmed victims, each path of the old tree is preserved.
abbrev pub KeepsUnconfirmed : Request → FileTree → FileTree → Type 0
KeepsUnconfirmed request old new = (p : Names) (node : Node) → get old p ≡ Some node → (IsConfirmedVictim request old p → ⊥) → IsPreserved request old new p node
