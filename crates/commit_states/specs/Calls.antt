-- The changing calls of a commit, in order.
use Rattle.std.specs.Prelude.{◌≡◌, ◌≢◌, ℕ, ◌+◌, ◌-◌, List, [], ◌∷◌, ◌++◌, length, ◌==◌, if◌then◌else◌, nat_lt, Bool, true, false, Option, Some, None, IsTrue}
use Rattle.std.specs.FinMap.{get, remove}
use Rattle.std.specs.Str.{is_utf8}
use Rattle.dired_text.specs.Paths.{Names}
use Rattle.tree_core.specs.declared.changes.Fresh.{Fresh}
use Rattle.tree_core.specs.declared.changes.Fresh.TheVariants as fresh
use Rattle.tree_core.specs.declared.node.Node.{Node}
use Rattle.tree_core.specs.declared.node.Node.TheVariants as node
use Rattle.tree_core.specs.FileTree.{FileTree, IsTarget, IsMode, IsFile, CanDo}
use Rattle.tree_core.specs.declared.node.Change.{Change}
use Rattle.tree_core.specs.declared.node.Change.TheVariants as call
use Rattle.commit_steps.specs.declared.step.Step.{Step}
use Rattle.commit_steps.specs.Staging.{staging, staged, at_marker, back_marker, held, fresh_name, new_journal, plan, sealed, undone}
use Rattle.step_trees.specs.Entries.{HoldsOnly}
use Rattle.step_trees.specs.Steps.{call_of, undo_of}
use Rattle.step_trees.specs.Groups.{groups, to_next_cut, whole_behind, from_last_cut, whole_before}
use Rattle.commit_states.specs.declared.held.Held.{Held}

-- ---- fresh entries

-- the call that makes a fresh entry at a path
abbrev pub fresh_call : Names → Fresh → Change
fresh_call p (fresh.Link target) = call.MakeLink p target
fresh_call p (fresh.File bytes mode) = call.WriteFile p bytes mode
fresh_call p (fresh.Same old) = call.MakeHard p old

-- the fresh entries from `fN` on
abbrev pub fresh_calls : ℕ → List Fresh → List Change
fresh_calls k [] = []
fresh_calls k (f ∷ fs) = fresh_call (staged (fresh_name k)) f ∷ fresh_calls (k + 1) fs

-- what stands there, and where nothing does anything
abbrev pub node_or : Option Node → Node
node_or None = node.Dir 0
node_or (Some n) = n

-- the entry that it makes, where the next file number is n
abbrev pub fresh_node : FileTree → ℕ → Fresh → Node
fresh_node t n (fresh.Link target) = node.Link target
fresh_node t n (fresh.File bytes mode) = node.File n bytes mode
fresh_node t n (fresh.Same old) = node_or (get t old)

-- the next file number behind it
abbrev pub number_behind : Fresh → ℕ → ℕ
number_behind (fresh.Link target) n = n
number_behind (fresh.File bytes mode) n = n + 1
number_behind (fresh.Same old) n = n

-- the entries that they make
abbrev pub fresh_nodes : FileTree → ℕ → List Fresh → List Node
fresh_nodes t n [] = []
fresh_nodes t n (f ∷ fs) = fresh_node t n f ∷ fresh_nodes t (number_behind f n) fs

-- a fresh entry that can be made where t is the old tree
abbrev pub IsLawfulFresh : FileTree → Fresh → Type 0
IsLawfulFresh t (fresh.Link target) = IsTarget target × IsTrue (is_utf8 target)
IsLawfulFresh t (fresh.File bytes mode) = IsMode mode
IsLawfulFresh t (fresh.Same old) = IsFile t old

abbrev pub AreLawfulFresh : FileTree → List Fresh → Type 0
AreLawfulFresh t [] = Unit {0}
AreLawfulFresh t (f ∷ fs) = IsLawfulFresh t f × AreLawfulFresh t fs

-- ---- staging

-- the staging directory with its first marker, the fresh entries and the journal
abbrev pub stage_calls : List Fresh → List ℕ → List Change
stage_calls fs journal = (call.MakeDir staging 0o700 ∷ call.WriteFile (staged (at_marker 0)) [] 0o600 ∷ fresh_calls 0 fs) ++ (call.WriteFile (staged new_journal) journal 0o600 ∷ [])

-- the journal gets its name
abbrev pub plan_calls : List Change
plan_calls = call.Rename (staged new_journal) (staged plan) ∷ call.Sync ∷ []

-- with a sync between: the journal has its name only when all of it is durable
abbrev pub staging_calls : List Fresh → List ℕ → List Change
staging_calls fs journal = (stage_calls fs journal ++ call.Sync ∷ []) ++ plan_calls

-- ---- steps, in groups

-- these steps, in order
abbrev pub do_calls : List Step → List Change
do_calls [] = []
do_calls (step ∷ steps) = call_of step ∷ do_calls steps

-- these steps and the marker
abbrev pub marked_calls : List Step → Names → Names → List Change
marked_calls steps marker next = (do_calls steps ++ call.Sync ∷ []) ++ (call.Rename marker next ∷ call.Sync ∷ [])

-- the group from place k on
abbrev pub group_calls : ℕ → List Step → List Change
group_calls k group = marked_calls group (staged (at_marker k)) (staged (at_marker (k + length group)))

-- the groups from place k on
abbrev pub calls_from : ℕ → List (List Step) → List Change
calls_from k [] = []
calls_from k (group ∷ gs) = group_calls k group ++ calls_from (k + length group) gs

-- From `at-m` on to the end of the steps. `left` are those from m to the next cut that are still to be done.
abbrev pub resume_calls : List Step → ℕ → List Step → List Change
resume_calls steps m left =
    if nat_lt m (length steps)
    then marked_calls left (staged (at_marker m)) (staged (at_marker (m + length (to_next_cut m (groups steps))))) ++ calls_from (m + length (to_next_cut m (groups steps))) (whole_behind m (groups steps))
    else []

-- ---- the seal, and the cleaning behind it

-- the journal gets its last name: from here on recovery leads forward only
abbrev pub seal_calls : List Change
seal_calls = call.Rename (staged plan) (staged sealed) ∷ call.Sync ∷ []

-- names with whether they are directories
abbrev pub Items : Type 0
Items = List (List ℕ × Bool)

-- a name in the staging directory is removed
abbrev pub removal_by : Bool → Names → Change
removal_by true p = call.RemoveDir p
removal_by false p = call.Remove p

-- These can be removed from the staging directory, one after another, and then nothing is left in it.
abbrev pub CleansItems : Items → FileTree → Type 0
CleansItems [] t = HoldsOnly t (λ name node. ⊥)
CleansItems (x ∷ xs) t = CanDo (removal_by x.1 (staged x.0)) t × CleansItems xs (remove t (staged x.0))

-- these, and then the marker
abbrev pub removals_of : Items → List ℕ → List Change
removals_of [] marker = call.Remove (staged marker) ∷ []
removals_of (x ∷ xs) marker = removal_by x.1 (staged x.0) ∷ removals_of xs marker

-- what is put aside, by name
abbrev pub held_items : List Held → Items
held_items [] = []
held_items (h ∷ hs) = (held h.number, h.is_dir) ∷ held_items hs

-- what is put aside can be removed, and then nothing is left but the marker and the journal
abbrev pub Cleans : List Held → FileTree → Type 0
Cleans hs t = CleansItems (held_items hs) t

-- what is put aside, and the last marker
abbrev pub removals : List Held → ℕ → List Change
removals hs n = removals_of (held_items hs) (at_marker n)

-- the journal of this name, and then the directory
abbrev pub last_of : List ℕ → List Change
last_of journal = call.Remove (staged journal) ∷ call.RemoveDir staging ∷ []

abbrev pub last_calls : List Change
last_calls = last_of sealed

-- what is put aside and the marker, and when that is durable the journal and the directory
abbrev pub cleaning_calls : List Held → ℕ → List Change
cleaning_calls hs n = (removals hs n ++ call.Sync ∷ []) ++ (last_calls ++ call.Sync ∷ [])

-- ---- the whole commit

-- behind the first sync
abbrev pub work_calls : List Step → List Fresh → List ℕ → List Held → List Change
work_calls steps fs journal hs = staging_calls fs journal ++ (calls_from 0 (groups steps) ++ (seal_calls ++ cleaning_calls hs (length steps)))

-- the commit of a plan that has steps
abbrev pub commit_calls : List Step → List Fresh → List ℕ → List Held → List Change
commit_calls steps fs journal hs = call.Sync ∷ work_calls steps fs journal hs

-- ---- the way back before `plan`, and the recovery of a tree without a journal: the names, and then the directory

abbrev pub unstage_calls : List (List ℕ) → List Change
unstage_calls [] = call.RemoveDir staging ∷ []
unstage_calls (x ∷ xs) = call.Remove (staged x) ∷ unstage_calls xs

-- each of these can be done
abbrev pub Unstages : List (List ℕ) → FileTree → Type 0
Unstages [] t = CanDo (call.RemoveDir staging) t
Unstages (x ∷ xs) t = CanDo (call.Remove (staged x)) t × Unstages xs (remove t (staged x))

-- ---- the way back with `plan`

-- where the marker turns round: at m, if none of the steps from m to the next cut was done, and else at that cut
abbrev pub turn_place : List Step → ℕ → List Step → ℕ
turn_place steps m [] = m
turn_place steps m (x ∷ taken) = m + length (to_next_cut m (groups steps))

-- from `at-k` it becomes `back-j`
abbrev pub turn_calls : ℕ → ℕ → List Change
turn_calls k j = call.Rename (staged (at_marker k)) (staged (back_marker j)) ∷ call.Sync ∷ []

-- these steps undone, the last one first
abbrev pub undo_calls : List Step → List Change
undo_calls [] = []
undo_calls (step ∷ steps) = undo_calls steps ++ undo_of step ∷ []

-- these steps undone, and the marker
abbrev pub unmarked_calls : List Step → Names → Names → List Change
unmarked_calls steps marker next = (undo_calls steps ++ call.Sync ∷ []) ++ (call.Rename marker next ∷ call.Sync ∷ [])

-- the group from place k on, of which these steps were done
abbrev pub back_calls : ℕ → List Step → List Step → List Change
back_calls k group taken = unmarked_calls taken (staged (back_marker (k + length group))) (staged (back_marker k))

-- the groups from place k on, the last one first
abbrev pub undo_from : ℕ → List (List Step) → List Change
undo_from k [] = []
undo_from k (group ∷ gs) = undo_from (k + length group) gs ++ back_calls k group group

-- From `back-m` to `back-0`, where `taken` of the steps before m were done, from the last cut on.
abbrev pub home_calls : List Step → ℕ → List Step → List Change
home_calls steps m taken = if m == 0 then [] else unmarked_calls taken (staged (back_marker m)) (staged (back_marker (m - length (from_last_cut m (groups steps))))) ++ undo_from 0 (whole_before (m - length (from_last_cut m (groups steps))) (groups steps))

-- the journal gets its name for the end of a way back
abbrev pub revoke_calls : List Change
revoke_calls = call.Rename (staged plan) (staged undone) ∷ call.Sync ∷ []

-- `f0` and so on, as many as there are fresh entries
abbrev pub fresh_items : ℕ → List Fresh → Items
fresh_items k [] = []
fresh_items k (f ∷ fs) = (fresh_name k, false) ∷ fresh_items (k + 1) fs

-- what a commit makes before its journal has its name: the first marker, the fresh entries, and the journal under its first name
abbrev pub early_items : List Fresh → Items
early_items fs = (at_marker 0, false) ∷ (fresh_items 0 fs ++ (new_journal, false) ∷ [])

-- the fresh entries and the marker, and when that is durable the journal and the directory
abbrev pub clearing_calls : List Fresh → List Change
clearing_calls fs = (removals_of (fresh_items 0 fs) (back_marker 0) ++ call.Sync ∷ []) ++ (last_of undone ++ call.Sync ∷ [])

-- to the old tree
abbrev pub end_calls : List Fresh → List Change
end_calls fs = revoke_calls ++ clearing_calls fs

-- ---- the recovery of a tree with `done` or `undone`

-- These names, none of them the journal's, can be removed from the staging directory, one after another, and then only the journal
-- is left in it.
abbrev pub ClearsItems : List ℕ → Items → FileTree → Type 0
ClearsItems journal [] t = HoldsOnly t (λ name node. name ≡ journal)
ClearsItems journal (x ∷ xs) t = (x.0 ≢ journal) × CanDo (removal_by x.1 (staged x.0)) t × ClearsItems journal xs (remove t (staged x.0))

-- these names, one after another
abbrev pub removals_by : Items → List Change
removals_by [] = []
removals_by (x ∷ xs) = removal_by x.1 (staged x.0) ∷ removals_by xs

-- all that stands besides the journal, and then that and the directory
abbrev pub close_calls : List ℕ → Items → List Change
close_calls journal xs = (removals_by xs ++ call.Sync ∷ []) ++ (last_of journal ++ call.Sync ∷ [])
