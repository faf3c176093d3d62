-- What is to become of the tree: a refusal or edits; a listing of it; a recovery; or nothing, but a drill in memory.
use Rattle.std.specs.Prelude.{ℕ, Bool, List, [], ◌++◌, codes, decimal, flat_map, length, Option, Some, None}
use Rattle.dired_text.specs.Paths.{Names, joined}
use Rattle.tree_core.specs.declared.changes.Changes.TheVariants.{Edits}
use Rattle.tree_core.specs.declared.edit.Edit.{Edit}
use Rattle.tree_core.specs.FileTree.{FileTree}
use Rattle.listing_text.specs.declared.switches.Switches.{Switches}
use Rattle.commit_recover.specs.declared.end.RecoverEnd.{RecoverEnd}
use Rattle.commit_recover.specs.declared.end.RecoverEnd.TheVariants as recovery
use Rattle.edit_words.specs.declared.counts.Counts.{Counts}
use Rattle.edit_words.specs.declared.fault.CheckFault.{CheckFault}
use Rattle.edit_words.specs.Counting.{counts_of}
use Rattle.edit_words.specs.Refusals.{refusal}
use Rattle.edit_words.specs.Rows.{rows}
use Rattle.edit_words.specs.Sight.{sight_of}
use Rattle.dired_run.specs.declared.requests.Request.{Request}
use Rattle.run_status.specs.declared.status.Status.{Status}
use Rattle.run_status.specs.declared.status.Status.TheVariants.{Missing}
use Rattle.run_status.specs.Faults.{status_of_fault}
use Rattle.run_status.specs.Statuses.{path_text}

-- a refusal; or these edits are made, and these names were emptied; or the root and these directories are listed; or what an
-- interrupted commit left is recovered (`true`: back); or the edits of a drill are committed, of so many directories
pub data Verdict : Type 0 where
  Refuses : Status → Verdict
  Makes : List Edit → List Names → Verdict
  Lists : Switches → List Names → Verdict
  Recovers : Bool → Verdict
  Drills : ℕ → Verdict

abbrev pub unless : Option CheckFault → Verdict → Verdict
unless None verdict = verdict
unless (Some fault) verdict = Refuses (status_of_fault fault)

-- what becomes of the tree by what is asked for: the first refusal of all edits, or all of them are made
abbrev pub on_tree : Request → FileTree → Verdict
on_tree request t = unless (refusal (sight_of t) request.confirmed (rows (Edits request.edits))) (Makes request.edits request.flagged)

-- a listing, unless no directory stands at one of its paths
abbrev pub on_dirs : Switches → List Names → Option Names → Verdict
on_dirs switches dirs None = Lists switches dirs
on_dirs switches dirs (Some other) = Refuses (Missing (joined other))

-- ---- what a commit writes

-- the line of an emptied name
abbrev pub flagged_text : Names → List ℕ
flagged_text path = codes "flagged " ++ path_text path ++ codes "\n"

-- the line of the counts
abbrev pub counts_text : Counts → ℕ → List ℕ
counts_text c flagged =
    codes "renamed " ++ decimal c.renamed ++ codes ", retargeted " ++ decimal c.retargeted ++ codes ", modes " ++ decimal c.modes
    ++ codes ", replaced " ++ decimal c.replaced ++ codes ", made " ++ decimal c.made ++ codes ", flagged " ++ decimal flagged ++ codes "\n"

-- one line for each emptied name, and then the counts
abbrev pub summary_text : Counts → List Names → List ℕ
summary_text counts flagged = flat_map flagged_text flagged ++ counts_text counts (length flagged)

-- of these edits in this tree
abbrev pub summary_of : FileTree → List Edit → List Names → List ℕ
summary_of t edits flagged = summary_text (counts_of (sight_of t) (rows (Edits edits))) flagged

-- ---- what a recovery writes

abbrev pub recovered_text : RecoverEnd → List ℕ
recovered_text recovery.Nothing = codes "nothing to recover\n"
recovered_text recovery.Edited = codes "recovered: edited\n"
recovered_text recovery.Old = codes "recovered: old\n"
recovered_text recovery.Cleared = codes "recovered: cleared\n"
recovered_text recovery.Memory = []
recovered_text (recovery.TreeFault first) = []
recovered_text (recovery.BadJournal offset) = []
recovered_text (recovery.Foreign name) = []
recovered_text (recovery.Strange step) = []
