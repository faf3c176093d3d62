-- The entries of the staging directory with which a recovery deals.
use Rattle.std.specs.Prelude.{◌↔◌, List, [], ◌∷◌, ◌++◌, Contains, Option, Some, None, if◌then◌else◌}
use Rattle.std.specs.List.{filter_map, flat_map}
use Rattle.std.specs.List.Sorted.{IsStrictlySortedBy}
use Rattle.std.specs.declared.cmp.Ordering.{Ordering}
use Rattle.std.specs.Str.{bytes_eq}
use Rattle.dired_text.specs.Paths.{Names}
use Rattle.commit_steps.specs.declared.step.Step.{Step}
use Rattle.commit_steps.specs.declared.step.Step.TheVariants.{MakeDir, Rename, Mode}
use Rattle.commit_steps.specs.Staging.{staging_name}
use Rattle.staging_names.specs.contracts.entry_name.EntryNameOrd.TheImpl as entry_order
use Rattle.staging_names.specs.declared.entry_name.EntryName.{EntryName}
use Rattle.staging_names.specs.declared.standing.Found as found
use Rattle.staging_names.specs.declared.staged_name.StagedName.{StagedName}
use Rattle.staging_names.specs.declared.staged_name.StagedName.TheVariants.{New, Journal, Marker, Entry, Other}
use Rattle.staging_names.specs.Names.{name_read}

abbrev pub entry_in : StagedName → Option EntryName
entry_in New = None
entry_in (Journal j) = None
entry_in (Marker m) = None
entry_in (Entry e) = Some e
entry_in Other = None

-- the entry that a path names: it is in the staging directory and has an entry's name
abbrev pub entry_at : Names → Option EntryName
entry_at [] = None
entry_at (x ∷ []) = None
entry_at (x ∷ n ∷ []) = if bytes_eq x staging_name then entry_in (name_read n) else None
entry_at (x ∷ n ∷ m ∷ p) = None

abbrev pub listed : {X : Type 0} → Option X → List X
listed None = []
listed (Some x) = x ∷ []

-- the entries in what was found
abbrev pub entries_found : List found.Found → List EntryName
entries_found fs = filter_map (λ f. entry_in f.name) fs

-- those that a step names; only a rename meets the staging directory
abbrev pub entries_of_step : Step → List EntryName
entries_of_step (MakeDir p) = []
entries_of_step (Rename from to) = listed (entry_at from) ++ listed (entry_at to)
entries_of_step (Mode p old new) = []

abbrev pub entries_named : List Step → List EntryName
entries_named steps = flat_map entries_of_step steps

-- the order of entries: by role, new ones first, then those put aside, then those that wait; and by number
abbrev pub entry_cmp : EntryName → EntryName → Ordering
entry_cmp = (entry_order.ghosts).cmp

-- these entries, each once, in their order
pub record AreEntries (wanted es : List EntryName) : Type 0 where
  pub rise : IsStrictlySortedBy entry_cmp es
  pub same : (e : EntryName) → Contains es e ↔ Contains wanted e
