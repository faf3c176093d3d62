-- The two ends of a recovery behind the steps, in one form.
use Rattle.std.specs.Prelude.{◌≡◌, ℕ, Bool, true, false, ◌&&◌, List, [], ◌∷◌, ◌++◌, if◌then◌else◌, is_some}
use Rattle.std.specs.FinMap.{get}
use Rattle.std.specs.List.{list_any}
use Rattle.commit_states.specs.Calls.{Items, removal_by, removals_of, last_of}
use Rattle.commit_steps.specs.Staging.{staged, plan, sealed, undone, at_marker, back_marker}
use Rattle.dired_text.specs.Paths.{Names}
use Rattle.recovery_calls.specs.declared.ending.Ending.{Ending}
use Rattle.recovery_calls.specs.declared.ending.Ending.TheVariants.{Sealed, Undone}
use Rattle.recovery_courses.specs.Course.{Course, these, strange_at}
use Rattle.recovery_courses.specs.Ends.{bars_seal, bars_revoke, is_dir_in, name_of, stands_in}
use Rattle.staging_names.specs.declared.entry_name.EntryName.{EntryName}
use Rattle.staging_names.specs.declared.entry_name.Role.{Role}
use Rattle.staging_names.specs.declared.entry_name.Role.TheVariants.{Fresh, Held, Temporary}
use Rattle.tree_core.specs.declared.node.Change.{Change}
use Rattle.tree_core.specs.declared.node.Change.TheVariants as call
use Rattle.tree_core.specs.FileTree.{FileTree, is_dir_node}
use Rattle.tree_core.specs.History.{History, current_tree}

-- the last name of the journal
abbrev pub last_name : Ending → List ℕ
last_name Sealed = sealed
last_name Undone = undone

-- what must not stand before it gets that name
abbrev pub bars : Ending → FileTree → EntryName → Bool
bars Sealed t e = bars_seal t e e.role
bars Undone t e = bars_revoke t e e.role

-- of which role the entries are that are removed behind it
abbrev pub goes : Ending → Role → Bool
goes Sealed Fresh = false
goes Sealed Held = true
goes Sealed Temporary = false
goes Undone Fresh = true
goes Undone Held = false
goes Undone Temporary = false

-- these, where they stand
abbrev pub gone_one : Ending → FileTree → EntryName → Items
gone_one end t e = if goes end e.role && stands_in t e then (name_of e, is_dir_in t e) ∷ [] else []

abbrev pub gone_in : Ending → FileTree → List EntryName → Items
gone_in end t [] = []
gone_in end t (e ∷ es) = gone_one end t e ++ gone_in end t es

-- the marker that stands then, where there are n steps
abbrev pub last_marker : Ending → ℕ → List ℕ
last_marker Sealed n = at_marker n
last_marker Undone n = back_marker 0

-- the number that is told where something bars it
abbrev pub barred_at : Ending → ℕ → ℕ
barred_at Sealed n = n
barred_at Undone n = 0

-- The journal gets its last name, and then all is removed, where the tree t stands and there are n steps.
abbrev pub ended_calls : Ending → ℕ → List EntryName → FileTree → List Change
ended_calls end n es t =
    (call.Rename (staged plan) (staged (last_name end)) ∷ call.Sync ∷ [])
    ++ ((removals_of (gone_in end t es) (last_marker end n) ++ call.Sync ∷ []) ++ (last_of (last_name end) ++ call.Sync ∷ []))

-- From `plan` and this marker: the same, unless something bars it.
abbrev pub ended : Ending → ℕ → List EntryName → History → Course
ended end n es h = if list_any (bars end (current_tree h)) es then strange_at (barred_at end n) else these (ended_calls end n es (current_tree h))

-- nothing bars it, of this entry
abbrev pub MayEnd : Ending → FileTree → EntryName → Type 0
MayEnd end t e = bars end t e ≡ false

-- what stands at a path is removed
abbrev pub removed_at : Names → FileTree → List Change
removed_at p t = if is_some (get t p) then removal_by (is_dir_node (get t p)) p ∷ [] else []
