-- Recovery behind the steps and without them. `es` are the names of the entries that were read in the staging directory or that a
-- step names, each once.
use Rattle.std.specs.Prelude.{ℕ, ◌+◌, Bool, false, not, ◌&&◌, List, [], ◌∷◌, ◌++◌, length, is_some, if◌then◌else◌}
use Rattle.std.specs.FinMap.{get}
use Rattle.std.specs.List.{list_any}
use Rattle.commit_states.specs.declared.held.Held.{Held}
use Rattle.commit_states.specs.Calls.{Items, seal_calls, cleaning_calls, revoke_calls, removals_of, last_of, close_calls, unstage_calls}
use Rattle.commit_steps.specs.declared.step.Step.{Step}
use Rattle.commit_steps.specs.Staging.{staged, undone, back_marker}
use Rattle.recovery_courses.specs.Course.{Course, these, strange_at, and_then}
use Rattle.recovery_courses.specs.Parts.{parts_behind, redone_parts, turned_from, undone_from}
use Rattle.staging_names.specs.declared.entry_name.EntryName.{EntryName}
use Rattle.staging_names.specs.declared.entry_name.Role.{Role}
use Rattle.staging_names.specs.declared.entry_name.Role.TheVariants.{Fresh, Held as PutAside, Temporary}
pub use Rattle.staging_names.specs.Names.{spelled, name_of}
use Rattle.step_looks.specs.Looks.{is_none_of}
use Rattle.tree_core.specs.declared.node.Change.TheVariants as call
use Rattle.tree_core.specs.Fields.{names_in}
use Rattle.tree_core.specs.FileTree.{FileTree, is_dir_node}
use Rattle.tree_core.specs.History.{History, current_tree}

abbrev pub stands_in : FileTree → EntryName → Bool
stands_in t e = is_some (get t (staged (name_of e)))

abbrev pub is_dir_in : FileTree → EntryName → Bool
is_dir_in t e = is_dir_node (get t (staged (name_of e)))

-- ---- forward

-- what must not stand before the seal: an entry that waits, a fresh one, and a directory with entries
abbrev pub bars_seal : FileTree → EntryName → Role → Bool
bars_seal t e Fresh = stands_in t e
bars_seal t e PutAside = is_dir_in t e && not (is_none_of (names_in t (staged (name_of e))))
bars_seal t e Temporary = stands_in t e

-- what was put aside and stands
abbrev pub held_one : FileTree → EntryName → Role → List Held
held_one t e Fresh = []
held_one t e PutAside = if stands_in t e then record { number = e.number; is_dir = is_dir_in t e } ∷ [] else []
held_one t e Temporary = []

abbrev pub held_in : FileTree → List EntryName → List Held
held_in t [] = []
held_in t (e ∷ es) = held_one t e e.role ++ held_in t es

-- the seal, and what is behind it; the steps are n
abbrev pub sealing : ℕ → List EntryName → History → Course
sealing n es h =
    if list_any (λ e. bars_seal (current_tree h) e e.role) es
    then strange_at n
    else these (seal_calls ++ cleaning_calls (held_in (current_tree h) es) n)

-- from `at-m` to the edited tree
abbrev pub forward_from : List Step → ℕ → List EntryName → History → Course
forward_from steps m es h = and_then (redone_parts m (parts_behind steps m) h) h (sealing (length steps) es)

-- ---- back

-- what must not stand before the journal gets its last name on the way back: an entry that waits, one put aside, a directory
abbrev pub bars_revoke : FileTree → EntryName → Role → Bool
bars_revoke t e Fresh = is_dir_in t e
bars_revoke t e PutAside = stands_in t e
bars_revoke t e Temporary = stands_in t e

-- the fresh entries that stand
abbrev pub fresh_one : FileTree → EntryName → Role → Items
fresh_one t e Fresh = if stands_in t e then (name_of e, false) ∷ [] else []
fresh_one t e PutAside = []
fresh_one t e Temporary = []

abbrev pub fresh_in : FileTree → List EntryName → Items
fresh_in t [] = []
fresh_in t (e ∷ es) = fresh_one t e e.role ++ fresh_in t es

-- the journal's last name on the way back, and what is behind it
abbrev pub revoking : List EntryName → History → Course
revoking es h =
    if list_any (λ e. bars_revoke (current_tree h) e e.role) es
    then strange_at 0
    else these (revoke_calls ++ ((removals_of (fresh_in (current_tree h) es) (back_marker 0) ++ call.Sync ∷ []) ++ (last_of undone ++ call.Sync ∷ [])))

-- from `back-m`, and from `at-m`, to the old tree
abbrev pub back_from : List Step → ℕ → List EntryName → History → Course
back_from steps m es h = and_then (undone_from steps m h) h (revoking es)

abbrev pub turned_back_from : List Step → ℕ → List EntryName → History → Course
turned_back_from steps m es h = and_then (turned_from steps m h) h (revoking es)

-- ---- from `done` and `undone`, and without a journal

-- what was read besides the journal is removed, and then that and the directory
abbrev pub closing : List ℕ → Items → Course
closing journal xs = these (close_calls journal xs)

-- all that was read, and the directory
abbrev pub clearing : List (List ℕ) → Course
clearing names = these (unstage_calls names ++ call.Sync ∷ [])
