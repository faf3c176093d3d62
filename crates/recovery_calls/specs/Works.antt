-- What a recovery takes with it, made before its changing calls.
use Rattle.std.specs.Prelude.{◌≡◌, ℕ, ◌+◌, ◌-◌, ◌≤◌, ◌==◌, List, [], ◌∷◌, ◌++◌, length, map, if◌then◌else◌, Option, None, Result, IfOk, codes}
use Rattle.std.specs.List.{AllByRecursion}
use Rattle.commit_calls.specs.Cuts.{cut_at}
use Rattle.commit_calls.specs.Paths.{ArePaths, at_marker_paths, back_marker_paths}
use Rattle.commit_steps.specs.declared.step.Step.{Step}
use Rattle.commit_steps.specs.Staging.{staged, at_marker, plan}
use Rattle.recovery_calls.specs.declared.work.Entry.{Entry}
use Rattle.recovery_calls.specs.declared.work.Work.{Work}
use Rattle.recovery_calls.specs.declared.turning.Turn.{Turn}
use Rattle.recovery_calls.specs.declared.way.Way.{Way}
use Rattle.recovery_calls.specs.Underway.{AreOnce, IsUnderway, NamesAmong}
use Rattle.recovery_courses.specs.Ends.{name_of}
use Rattle.recovery_courses.specs.Parts.{parts_behind}
use Rattle.staging_names.specs.declared.entry_name.EntryName.{EntryName}
use Rattle.staging_names.specs.declared.entry_name.Role.{Role}
use Rattle.staging_names.specs.declared.entry_name.Role.TheVariants.{Fresh, Held, Temporary}
use Rattle.step_cuts.specs.Cuts.{ends_of}
use Rattle.step_looks.specs.Looks.{AreParents}
use Rattle.step_trees.specs.Groups.{groups, to_next_cut, from_last_cut, whole_before}
use Rattle.step_trees.specs.Steps.{IsStep}
use Rattle.tree_core.specs.declared.node.CallName.{CallName}
use Rattle.tree_core.specs.History.{History, current_tree}

abbrev pub names_of : List Entry → List EntryName
names_of entries = map (λ e. e.name) entries

-- the entries that a recovery takes with it, by name
abbrev pub entries_of : Work → List EntryName
entries_of w = names_of w.entries.items

-- the letter before the number in a name of this role
abbrev pub letter_of : Role → List ℕ
letter_of Fresh = codes "f"
letter_of Held = codes "h"
letter_of Temporary = codes "t"

-- it has the path of its name
abbrev pub HasPath : Entry → Type 0
HasPath e = e.path ≡ staged (name_of e.name)

-- The steps are lawful, with the directories of their paths. The entries come once each, and the steps name no others.
pub record IsWork (w : Work) : Type 0 where
  pub steps : AllByRecursion IsStep w.steps
  pub parents : AreParents w.steps w.parents.items
  pub entries : AllByRecursion HasPath w.entries.items
  pub once : AreOnce (entries_of w)
  pub among : AllByRecursion (NamesAmong (entries_of w)) w.steps
  pub paths : ArePaths w.paths

-- the parts before place m: the groups before the last cut before m, and what lies between that cut and m
abbrev pub parts_before : List Step → ℕ → List (List Step)
parts_before steps m =
    if m == 0
    then []
    else whole_before (m - length (from_last_cut m (groups steps))) (groups steps) ++ from_last_cut m (groups steps) ∷ []

-- from the marker `at-m` to the end: place m, the cuts behind it, and the markers there
pub record LeadsForward (steps : List Step) (w : Way) : Type 0 where
  pub within : w.from ≤ length steps
  pub places : w.places.items ≡ w.from ∷ ends_of w.from (parts_behind steps w.from)
  pub markers : w.markers.items ≡ at_marker_paths w.places.items

-- from the marker `back-m` to the first: place 0, the cuts before m, and m itself, and the markers there
pub record LeadsBack (steps : List Step) (w : Way) : Type 0 where
  pub within : w.from ≤ length steps
  pub places : w.places.items ≡ 0 ∷ ends_of 0 (parts_before steps w.from)
  pub markers : w.markers.items ≡ back_marker_paths w.places.items

-- the parts of a way forward
abbrev pub parts_ahead : Work → Way → List (List Step)
parts_ahead work w = parts_behind work.steps w.from

-- and those of a way back
abbrev pub parts_left : Work → Way → List (List Step)
parts_left work w = parts_before work.steps w.from

-- where part number i begins, of parts from place k on
abbrev pub place_of : ℕ → List (List Step) → ℕ → ℕ
place_of k parts i = k + cut_at i parts

-- `plan` and this marker stand, and of the entries some
abbrev pub IsMarked : List ℕ → Work → History → Type 0
IsMarked marker work h = IsUnderway plan marker (entries_of work) (current_tree h)

-- What it says holds where nothing strange was found.
abbrev pub IfDone : Result (Option ℕ) CallName → Type 0 → Type 0
IfDone result P = IfOk result (λ strange. strange ≡ None → P)

-- From the marker `at-m` the way back goes from place m, or from the next cut behind it.
pub record IsTurn (steps : List Step) (t : Turn) : Type 0 where
  pub marker : t.marker ≡ staged (at_marker t.here.from)
  pub here : LeadsBack steps t.here
  pub next : LeadsBack steps t.next
  pub cut : t.next.from ≡ t.here.from + length (to_next_cut t.here.from (groups steps))
