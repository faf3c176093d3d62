-- Lists of calls that are safe and where they lead, as statements.
use Rattle.std.specs.Prelude.{Bool, ◌≡◌, ◌≢◌, ◌⊎◌, ◌<◌, ℕ, ◌+◌, List, [], ◌∷◌, ◌++◌, length, codes, ◌≤◌, ◌^◌}
use Rattle.tree_core.specs.declared.changes.Fresh.{Fresh}
use Rattle.tree_core.specs.declared.node.Node.{Node}
use Rattle.tree_core.specs.declared.node.Change.{Change}
use Rattle.tree_core.specs.declared.node.Change.TheVariants as call
use Rattle.tree_core.specs.declared.node.CallName.{CallName}
use Rattle.tree_core.specs.FileTree.{FileTree, IsTree, IsAbsent, Stands}
use Rattle.tree_core.specs.History.{History, Then, IsSound, current_tree, next_number, IsCrashState, IsDurable, LeavesOnly}
use Rattle.tree_core.specs.Runs.{then_all, CanAll, FailedIn}
use Rattle.commit_steps.specs.declared.step.Step.{Step}
use Rattle.commit_steps.specs.declared.step.Step.TheVariants.{MakeDir}
use Rattle.commit_journal.specs.declared.version.Version.TheVariants.{Two}
use Rattle.commit_journal.specs.Spelling.{journal_text}
use Rattle.commit_steps.specs.Staging.{staging, staged, at_marker, plan, sealed, undone}
use Rattle.step_trees.specs.Groups.{groups, joined}
use Rattle.step_trees.specs.Leads.{start, at_place, Leads}
use Rattle.commit_states.specs.declared.held.Held.{Held}
use Rattle.commit_states.specs.Interrupted.{IsWritten, JournalKind, IsOfKind, IsInterruptedBy, IsInterrupted, ending, GoesForward, ReadsNew}
use Rattle.commit_states.specs.Calls.{fresh_nodes, commit_calls, staging_calls, group_calls, calls_from, resume_calls, seal_calls, cleaning_calls, Cleans, turn_calls, home_calls, end_calls, fresh_items, early_items, CleansItems, unstage_calls, Unstages, Items, ClearsItems, close_calls}
use Rattle.commit_states.specs.Places.{HasNoJournal, InStaging, AmongGroups, SealOrBehind}
use Rattle.commit_states.specs.Reads.{IsAllNamed}
use Rattle.commit_states.specs.Fits.{Fits, edited_by}
use Rattle.commit_states.specs.Stops.{Unplanned, Halted, Turned, TurnsRound, still_left, already_done, to_undo, to_undo_behind, BehindSeal, AllUndone}

-- These calls, from now on, can be done one after another. A crash at any moment since a run began leaves a tree that has P, also
-- where one of them fails and is the last. Behind them all the target stands, and nothing is pending.
pub record LeadsSafely (P : FileTree → Type 0) (target : FileTree) (began now : History) (changes : List Change) : Type 0 where
  pub can : CanAll changes now
  pub moments : LeavesOnly began (then_all now changes) P
  pub failed : (last : History) (before : FileTree) (first : CallName) → FailedIn changes now last before first → LeavesOnly began last P
  pub target_stands : current_tree (then_all now changes) ≡ target
  pub durable : IsDurable (then_all now changes)

-- ---- a commit

-- A commit of steps leads safely to the edited tree.
abbrev pub CommitsAreSafe : Type 0
CommitsAreSafe =
    (steps : List Step) (fs : List Fresh) (journal : List ℕ) (hs : List Held) (new : FileTree) (o : History) → IsDurable o → IsSound o
    → Fits steps fs journal hs new (current_tree o) (next_number o)
    → LeadsSafely (IsInterruptedBy (IsWritten steps) steps (current_tree o) new (fresh_nodes (current_tree o) (next_number o + 1) fs)) new o o (commit_calls steps fs journal hs)

-- What it asks for can be met: by one that makes the directory `d`, in any tree that has nothing there.
abbrev pub CommitsCanFit : Type 0
CommitsCanFit =
    (old : FileTree) (next : ℕ) → IsTree old → IsAbsent old staging → IsAbsent old (codes "d" ∷ [])
    → Fits (MakeDir (codes "d" ∷ []) ∷ []) [] (journal_text Two (MakeDir (codes "d" ∷ []) ∷ [])) [] (edited_by (MakeDir (codes "d" ∷ []) ∷ []) old []) old next

-- the history of a commit up to its first step, and up to its seal
abbrev pub staged_history : List Fresh → List ℕ → History → History
staged_history fs journal o = then_all (Then o call.Sync) (staging_calls fs journal)

abbrev pub stepped_history : List Step → List Fresh → List ℕ → History → History
stepped_history steps fs journal o = then_all (staged_history fs journal o) (calls_from 0 (groups steps))

-- and with `done`, before the sync behind the seal
abbrev pub sealed_history : List Step → List Fresh → List ℕ → History → History
sealed_history steps fs journal o = Then (stepped_history steps fs journal o) (call.Rename (staged plan) (staged sealed))

-- Where a call of the staging failed, the journal doesn't have its name yet, or `at-0` stands and no step is done.
abbrev pub FailedStagingsStop : Type 0
FailedStagingsStop =
    (steps : List Step) (fs : List Fresh) (journal : List ℕ) (hs : List Held) (new : FileTree) (o : History) → IsDurable o → IsSound o
    → Fits steps fs journal hs new (current_tree o) (next_number o)
    → (last : History) (before : FileTree) (first : CallName) → FailedIn (staging_calls fs journal) (Then o call.Sync) last before first
    → Unplanned (IsWritten steps) steps (current_tree o) new (fresh_nodes (current_tree o) (next_number o + 1) fs) (current_tree o) o last
    ⊎ ((h : Halted (IsWritten steps) steps (current_tree o) new (fresh_nodes (current_tree o) (next_number o + 1) fs) o last) × (h.m ≡ 0))

-- Where a call among the steps or the markers failed, `at-m` stands with some of the steps from m to the next cut done.
abbrev pub FailedStepsHalt : Type 0
FailedStepsHalt =
    (steps : List Step) (fs : List Fresh) (journal : List ℕ) (hs : List Held) (new : FileTree) (o : History) → IsDurable o → IsSound o
    → Fits steps fs journal hs new (current_tree o) (next_number o)
    → (last : History) (before : FileTree) (first : CallName) → FailedIn (calls_from 0 (groups steps)) (staged_history fs journal o) last before first
    → Halted (IsWritten steps) steps (current_tree o) new (fresh_nodes (current_tree o) (next_number o + 1) fs) o last

-- Where the seal or a call behind it failed, recovery forward ends with the edited tree, whatever a crash leaves.
abbrev pub FailedSealsGoForward : Type 0
FailedSealsGoForward =
    (steps : List Step) (fs : List Fresh) (journal : List ℕ) (hs : List Held) (new : FileTree) (o : History) → IsDurable o → IsSound o
    → Fits steps fs journal hs new (current_tree o) (next_number o)
    → (last : History) (before : FileTree) (first : CallName) → FailedIn (seal_calls ++ cleaning_calls hs (length steps)) (stepped_history steps fs journal o) last before first
    → (c : FileTree) → IsCrashState last c → GoesForward (IsWritten steps) steps (current_tree o) new (fresh_nodes (current_tree o) (next_number o + 1) fs) c

-- Where the sync behind the seal or a call of the cleaning failed, the tree that reads is the edited one but for the staging
-- directory, and recovery ends with it in either direction.
abbrev pub UncleanReadsNew : Type 0
UncleanReadsNew =
    (steps : List Step) (fs : List Fresh) (journal : List ℕ) (hs : List Held) (new : FileTree) (o : History) → IsDurable o → IsSound o
    → Fits steps fs journal hs new (current_tree o) (next_number o)
    → (last : History) (before : FileTree) (first : CallName)
    → FailedIn (call.Sync ∷ cleaning_calls hs (length steps)) (sealed_history steps fs journal o) last before first
    → ReadsNew (IsWritten steps) steps (current_tree o) new (fresh_nodes (current_tree o) (next_number o + 1) fs) (current_tree last)

-- So it is where the seal itself failed and `done` stands.
abbrev pub SealedReadsNew : Type 0
SealedReadsNew =
    (steps : List Step) (fs : List Fresh) (journal : List ℕ) (hs : List Held) (new : FileTree) (o : History) → IsDurable o → IsSound o
    → Fits steps fs journal hs new (current_tree o) (next_number o)
    → (last : History) (before : FileTree) (first : CallName)
    → FailedIn seal_calls (stepped_history steps fs journal o) last before first → Stands (current_tree last) (staged sealed)
    → ReadsNew (IsWritten steps) steps (current_tree o) new (fresh_nodes (current_tree o) (next_number o + 1) fs) (current_tree last)

-- Of a group that begins at place k: where one of its calls failed, the marker stands at k or behind the group.
abbrev pub FailedGroupsHalt : Type 0
FailedGroupsHalt =
    (steps : List Step) (fs : List Fresh) (journal : List ℕ) (hs : List Held) (new : FileTree) (o : History) → IsDurable o → IsSound o
    → Fits steps fs journal hs new (current_tree o) (next_number o)
    → (front behind : List (List Step)) (g : List Step) → groups steps ≡ front ++ g ∷ behind → (k : ℕ) → k ≡ length (joined front)
    → (last : History) (before : FileTree) (first : CallName)
    → FailedIn (group_calls k g) (then_all (staged_history fs journal o) (calls_from 0 front)) last before first
    → (h : Halted (IsWritten steps) steps (current_tree o) new (fresh_nodes (current_tree o) (next_number o + 1) fs) o last)
    × ((h.m ≡ k) ⊎ (h.m ≡ k + length g))

-- Where the seal itself failed, `done` stands, or `plan` and the last marker do.
abbrev pub FailedSealsHalt : Type 0
FailedSealsHalt =
    (steps : List Step) (fs : List Fresh) (journal : List ℕ) (hs : List Held) (new : FileTree) (o : History) → IsDurable o → IsSound o
    → Fits steps fs journal hs new (current_tree o) (next_number o)
    → (last : History) (before : FileTree) (first : CallName)
    → FailedIn seal_calls (stepped_history steps fs journal o) last before first
    → Stands (current_tree last) (staged sealed)
    ⊎ ((h : Halted (IsWritten steps) steps (current_tree o) new (fresh_nodes (current_tree o) (next_number o + 1) fs) o last) × (h.m ≡ length steps))

-- One look tells which: where a commit halted at m, nothing stands under `done`,
abbrev pub HaltsShowNoSeal : Type 0
HaltsShowNoSeal =
    (kind : JournalKind) (steps : List Step) (old new : FileTree) (fresh : List Node) (began now : History) → Leads steps old new fresh
    → Halted (IsOfKind kind steps) steps old new fresh began now → IsAbsent (current_tree now) (staged sealed)

-- nor under another marker than `at-m`.
abbrev pub HaltsShowOneMarker : Type 0
HaltsShowOneMarker =
    (kind : JournalKind) (steps : List Step) (old new : FileTree) (fresh : List Node) (began now : History) → Leads steps old new fresh
    → (h : Halted (IsOfKind kind steps) steps old new fresh began now)
    → (j : ℕ) → j < 2 ^ 32 → j ≢ h.m → IsAbsent (current_tree now) (staged (at_marker j))

-- The tree before a call that failed tells the place: in the staging,
abbrev pub FailedStagingsTellPlaces : Type 0
FailedStagingsTellPlaces =
    (steps : List Step) (fs : List Fresh) (journal : List ℕ) (hs : List Held) (new : FileTree) (o : History) → IsDurable o → IsSound o
    → Fits steps fs journal hs new (current_tree o) (next_number o)
    → (last : History) (before : FileTree) (first : CallName)
    → FailedIn (staging_calls fs journal) (Then o call.Sync) last before first → InStaging steps (current_tree o) first before

-- among the groups,
abbrev pub FailedStepsTellPlaces : Type 0
FailedStepsTellPlaces =
    (steps : List Step) (fs : List Fresh) (journal : List ℕ) (hs : List Held) (new : FileTree) (o : History) → IsDurable o → IsSound o
    → Fits steps fs journal hs new (current_tree o) (next_number o)
    → (last : History) (before : FileTree) (first : CallName)
    → FailedIn (calls_from 0 (groups steps)) (staged_history fs journal o) last before first → AmongGroups steps before

-- and at the seal or behind it.
abbrev pub FailedSealsTellPlaces : Type 0
FailedSealsTellPlaces =
    (steps : List Step) (fs : List Fresh) (journal : List ℕ) (hs : List Held) (new : FileTree) (o : History) → IsDurable o → IsSound o
    → Fits steps fs journal hs new (current_tree o) (next_number o)
    → (last : History) (before : FileTree) (first : CallName)
    → FailedIn (seal_calls ++ cleaning_calls hs (length steps)) (stepped_history steps fs journal o) last before first
    → SealOrBehind steps new first before

-- Where a call of the staging failed and `plan` doesn't stand, all that stands in the staging directory has an early name.
abbrev pub FailedStagingsName : Type 0
FailedStagingsName =
    (steps : List Step) (fs : List Fresh) (journal : List ℕ) (hs : List Held) (new : FileTree) (o : History) → IsDurable o → IsSound o
    → Fits steps fs journal hs new (current_tree o) (next_number o)
    → (last : History) (before : FileTree) (first : CallName) → FailedIn (staging_calls fs journal) (Then o call.Sync) last before first
    → IsAbsent (current_tree last) (staged plan) → IsAllNamed (early_items fs) (current_tree last)

-- One look tells: `plan` doesn't stand, nor `done` and `undone`, where no journal has its name yet. In a `Halted` tree it stands.
abbrev pub UnplannedShowNoJournal : Type 0
UnplannedShowNoJournal =
    (kind : JournalKind) (steps : List Step) (old new : FileTree) (fresh : List Node) (target : FileTree) (began now : History)
    → Unplanned (IsOfKind kind steps) steps old new fresh target began now → HasNoJournal (current_tree now)

-- ---- other journals

-- What a commit writes is a journal that recovery reads.
abbrev pub WrittenAreInterrupted : Type 0
WrittenAreInterrupted =
    (steps : List Step) (old new : FileTree) (fresh : List Node) (t : FileTree)
    → IsInterruptedBy (IsWritten steps) steps old new fresh t → IsInterrupted steps old new fresh t

-- ---- without a journal. The laws from here on hold for either kind of journal.

-- The names are removed and then the directory. Where it doesn't stand a sync does it.
abbrev pub UnplannedGoBack : Type 0
UnplannedGoBack =
    (kind : JournalKind) (steps : List Step) (old new : FileTree) (fresh : List Node) (target : FileTree) (began now : History) → (target ≡ old) ⊎ (target ≡ new)
    → Unplanned (IsOfKind kind steps) steps old new fresh target began now → (xs : List (List ℕ)) → Unstages xs (current_tree now)
    → LeadsSafely (IsInterruptedBy (IsOfKind kind steps) steps old new fresh) target began now (unstage_calls xs ++ call.Sync ∷ [])

abbrev pub UnstagedGoBack : Type 0
UnstagedGoBack =
    (kind : JournalKind) (steps : List Step) (old new : FileTree) (fresh : List Node) (target : FileTree) (began now : History) → (target ≡ old) ⊎ (target ≡ new)
    → Unplanned (IsOfKind kind steps) steps old new fresh target began now → IsAbsent (current_tree now) staging
    → LeadsSafely (IsInterruptedBy (IsOfKind kind steps) steps old new fresh) target began now (call.Sync ∷ [])

-- ---- forward from `at-m`

-- What is left of its group is done, then the groups behind it, the seal and the cleaning.
abbrev pub HaltsGoForward : Type 0
HaltsGoForward =
    (kind : JournalKind) (steps : List Step) (old new : FileTree) (fresh : List Node) (hs : List Held) (began now : History) → Leads steps old new fresh
    → Cleans hs (at_place steps old fresh (length steps)) → (h : Halted (IsOfKind kind steps) steps old new fresh began now)
    → LeadsSafely (IsInterruptedBy (IsOfKind kind steps) steps old new fresh) new began now
    (call.Sync ∷ (resume_calls steps h.m (still_left h) ++ (seal_calls ++ cleaning_calls hs (length steps))))

-- ---- back

-- Those of its group that were done are undone, then the groups before it, and the staging directory is cleared.
abbrev pub TurnedGoBack : Type 0
TurnedGoBack =
    (kind : JournalKind) (steps : List Step) (old new : FileTree) (fresh : List Node) (fs : List Fresh) (began now : History) → Leads steps old new fresh
    → IsTree old → IsAbsent old staging → CleansItems (fresh_items 0 fs) (start old fresh) → (b : Turned (IsOfKind kind steps) steps old new fresh began now)
    → LeadsSafely (IsInterruptedBy (IsOfKind kind steps) steps old new fresh) old began now
    (call.Sync ∷ (home_calls steps b.m (to_undo b) ++ end_calls fs))

-- These are undone, and so on back.
abbrev pub HaltsGoBack : Type 0
HaltsGoBack =
    (kind : JournalKind) (steps : List Step) (old new : FileTree) (fresh : List Node) (fs : List Fresh) (began now : History) → Leads steps old new fresh
    → IsTree old → IsAbsent old staging → CleansItems (fresh_items 0 fs) (start old fresh) → (h : Halted (IsOfKind kind steps) steps old new fresh began now)
    → (t : TurnsRound steps old fresh h.m h.u (already_done h))
    × LeadsSafely (IsInterruptedBy (IsOfKind kind steps) steps old new fresh) old began now
    (call.Sync ∷ (turn_calls h.m t.j ++ (home_calls steps t.j (to_undo_behind t) ++ end_calls fs)))

-- ---- from `done` and `undone`

-- What stands besides the journal is removed in whatever order, and then that and the directory.
abbrev pub SealsGoForward : Type 0
SealsGoForward =
    (kind : JournalKind) (steps : List Step) (old new : FileTree) (fresh : List Node) (began now : History) → Leads steps old new fresh → BehindSeal (IsOfKind kind steps) steps old new fresh began now
    → (xs : Items) → ClearsItems sealed xs (current_tree now) → LeadsSafely (IsInterruptedBy (IsOfKind kind steps) steps old new fresh) new began now (call.Sync ∷ close_calls sealed xs)

abbrev pub UndoneGoBack : Type 0
UndoneGoBack =
    (kind : JournalKind) (steps : List Step) (old new : FileTree) (fresh : List Node) (began now : History) → Leads steps old new fresh → AllUndone (IsOfKind kind steps) steps old new fresh began now
    → (xs : Items) → ClearsItems undone xs (current_tree now) → LeadsSafely (IsInterruptedBy (IsOfKind kind steps) steps old new fresh) old began now (call.Sync ∷ close_calls undone xs)

-- ---- all of it

-- From each interrupted tree, in either direction (`true`: back), some calls lead safely to the tree that the row says.
abbrev pub InterruptedTreesRecover : Type 0
InterruptedTreesRecover =
    (kind : JournalKind) (steps : List Step) (old new : FileTree) (fresh : List Node) (began now : History) (way : Bool) → IsTree old → IsAbsent old staging → length fresh ≤ 2 ^ 32
    → LeavesOnly began now (IsInterruptedBy (IsOfKind kind steps) steps old new fresh) → IsSound now → (r : IsInterruptedBy (IsOfKind kind steps) steps old new fresh (current_tree now))
    → (changes : List Change) × LeadsSafely (IsInterruptedBy (IsOfKind kind steps) steps old new fresh) (ending way r) began now changes
