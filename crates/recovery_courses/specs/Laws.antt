-- What stands is led home by the courses, as statements.
use Rattle.std.specs.Prelude.{◌≡◌, ◌⊎◌, ℕ, ◌<◌, ◌≤◌, ◌^◌, List, [], ◌∷◌, length, Option, None, Result, IfOk, IsTrue}
use Rattle.std.specs.List.{AllByRecursion}
use Rattle.commit_states.specs.Calls.{Items}
use Rattle.commit_states.specs.Interrupted.{JournalKind, IsOfKind, IsInterruptedBy}
use Rattle.commit_states.specs.Laws.{LeadsSafely}
use Rattle.commit_states.specs.Reads.{AreRead}
use Rattle.commit_states.specs.Stops.{Unplanned, Halted, Turned, BehindSeal, AllUndone}
use Rattle.commit_steps.specs.declared.step.Step.{Step}
use Rattle.commit_steps.specs.Staging.{staging, staged, sealed, undone}
use Rattle.dired_text.specs.Paths.{Names}
use Rattle.recovery_courses.specs.Course.{Course, these, Follows}
use Rattle.recovery_courses.specs.Ends.{name_of, stands_in, forward_from, back_from, turned_back_from, closing, clearing}
use Rattle.staging_names.specs.declared.entry_name.EntryName.{EntryName}
use Rattle.staging_names.specs.declared.entry_name.Role.{Role}
use Rattle.staging_names.specs.declared.entry_name.Role.TheVariants.{Fresh, Held as PutAside, Temporary}
use Rattle.step_trees.specs.Groups.{all_paths}
use Rattle.step_trees.specs.Leads.{Leads}
use Rattle.tree_core.specs.Fields.{names_in}
use Rattle.tree_core.specs.declared.node.CallName.{CallName}
use Rattle.tree_core.specs.declared.node.Change.TheVariants.{Sync}
use Rattle.tree_core.specs.declared.node.Node.{Node}
use Rattle.tree_core.specs.FileTree.{FileTree, IsAbsent, IsDir, IsTree}
use Rattle.tree_core.specs.History.{History, Then, IsDurable, LeavesOnly, current_tree}

-- From now on, behind a sync, a course finds nothing strange, and its calls lead safely to the target.
pub record LeadsHome (P : FileTree → Type 0) (target : FileTree) (began now : History) (course : History → Course) : Type 0 where
  pub lawful : (course (Then now Sync)).strange ≡ None
  pub leads : LeadsSafely P target began now (Sync ∷ (course (Then now Sync)).calls)

-- ---- the entries that are looked at

-- fresh ones come first, then what was put aside, then those that wait for their names
abbrev pub rank : Role → ℕ
rank Fresh = 0
rank PutAside = 1
rank Temporary = 2

-- by role, and then by number
abbrev pub ComesBefore : EntryName → EntryName → Type 0
ComesBefore e f = (rank e.role < rank f.role) ⊎ ((e.role ≡ f.role) × (e.number < f.number))

abbrev pub ComeInOrder : List EntryName → Type 0
ComeInOrder [] = Unit {0}
ComeInOrder (e ∷ es) = AllByRecursion (ComesBefore e) es × ComeInOrder es

abbrev pub IsAmong : EntryName → List EntryName → Type 0
IsAmong e [] = ⊥
IsAmong e (f ∷ es) = (e ≡ f) ⊎ IsAmong e es

abbrev pub IsOneOf : Names → List Names → Type 0
IsOneOf p [] = ⊥
IsOneOf p (q ∷ ps) = (p ≡ q) ⊎ IsOneOf p ps

-- In order, each once: the entries that stand in the staging directory of t, and those that a path of the steps names. Others may be
-- among them.
pub record AreEntries (steps : List Step) (t : FileTree) (es : List EntryName) : Type 0 where
  pub ordered : ComeInOrder es
  pub small : AllByRecursion (λ (e : EntryName). e.number < 2 ^ 32) es
  pub standing : (e : EntryName) → e.number < 2 ^ 32 → IsTrue (stands_in t e) → IsAmong e es
  pub named : (e : EntryName) → e.number < 2 ^ 32 → IsOneOf (staged (name_of e)) (all_paths steps) → IsAmong e es

-- ---- with `plan`. These laws hold for either kind of journal.

-- forward from `at-m`
abbrev pub HaltsLeadForward : Type 0
HaltsLeadForward =
    (kind : JournalKind) (steps : List Step) (old new : FileTree) (fresh : List Node) (es : List EntryName) (began now : History) → Leads steps old new fresh
    → (h : Halted (IsOfKind kind steps) steps old new fresh began now) → AreEntries steps (current_tree now) es
    → LeadsHome (IsInterruptedBy (IsOfKind kind steps) steps old new fresh) new began now (forward_from steps h.m es)

-- back from `at-m`
abbrev pub HaltsLeadBack : Type 0
HaltsLeadBack =
    (kind : JournalKind) (steps : List Step) (old new : FileTree) (fresh : List Node) (es : List EntryName) (began now : History) → Leads steps old new fresh
    → IsTree old → IsAbsent old staging → length fresh ≤ 2 ^ 32
    → (h : Halted (IsOfKind kind steps) steps old new fresh began now) → AreEntries steps (current_tree now) es
    → LeadsHome (IsInterruptedBy (IsOfKind kind steps) steps old new fresh) old began now (turned_back_from steps h.m es)

-- and from `back-m`
abbrev pub TurnedLeadBack : Type 0
TurnedLeadBack =
    (kind : JournalKind) (steps : List Step) (old new : FileTree) (fresh : List Node) (es : List EntryName) (began now : History) → Leads steps old new fresh
    → IsTree old → IsAbsent old staging → length fresh ≤ 2 ^ 32
    → (b : Turned (IsOfKind kind steps) steps old new fresh began now) → AreEntries steps (current_tree now) es
    → LeadsHome (IsInterruptedBy (IsOfKind kind steps) steps old new fresh) old began now (back_from steps b.m es)

-- ---- from `done` and `undone`: what else stands is removed, in whatever order

abbrev pub SealsLeadForward : Type 0
SealsLeadForward =
    (kind : JournalKind) (steps : List Step) (old new : FileTree) (fresh : List Node) (xs : Items) (began now : History) → Leads steps old new fresh
    → BehindSeal (IsOfKind kind steps) steps old new fresh began now → AreRead (current_tree now) (λ name. name ≡ sealed) xs
    → LeadsHome (IsInterruptedBy (IsOfKind kind steps) steps old new fresh) new began now (λ h. closing sealed xs)

abbrev pub UndoneLeadBack : Type 0
UndoneLeadBack =
    (kind : JournalKind) (steps : List Step) (old new : FileTree) (fresh : List Node) (xs : Items) (began now : History) → Leads steps old new fresh
    → AllUndone (IsOfKind kind steps) steps old new fresh began now → AreRead (current_tree now) (λ name. name ≡ undone) xs
    → LeadsHome (IsInterruptedBy (IsOfKind kind steps) steps old new fresh) old began now (λ h. closing undone xs)

-- ---- without a journal: all names are removed, and the directory, where it stands

abbrev pub UnplannedLeadBack : Type 0
UnplannedLeadBack =
    (kind : JournalKind) (steps : List Step) (old new : FileTree) (fresh : List Node) (target : FileTree) (began now : History) → (target ≡ old) ⊎ (target ≡ new)
    → Unplanned (IsOfKind kind steps) steps old new fresh target began now → IsDir (current_tree now) staging
    → LeadsHome (IsInterruptedBy (IsOfKind kind steps) steps old new fresh) target began now (λ h. clearing (names_in (current_tree now) staging))

abbrev pub UnstagedLeadBack : Type 0
UnstagedLeadBack =
    (kind : JournalKind) (steps : List Step) (old new : FileTree) (fresh : List Node) (target : FileTree) (began now : History) → (target ≡ old) ⊎ (target ≡ new)
    → Unplanned (IsOfKind kind steps) steps old new fresh target began now → IsAbsent (current_tree now) staging
    → LeadsHome (IsInterruptedBy (IsOfKind kind steps) steps old new fresh) target began now (λ h. these [])

-- ---- code that follows a course

-- Whatever it answers, a crash at any moment leaves a tree that has P. At Ok nothing was strange, the target stands, and nothing is
-- pending.
pub record ComesHome (P : FileTree → Type 0) (target : FileTree) (began last : History) (result : Result (Option ℕ) CallName) : Type 0 where
  pub moments : LeavesOnly began last P
  pub home : IfOk result (λ strange. (strange ≡ None) × (current_tree last ≡ target) × IsDurable last)

-- So it is of code that follows a course that leads home, behind a sync. A call or a look of it may fail.
abbrev pub FollowersComeHome : Type 0
FollowersComeHome =
    (kind : JournalKind) (steps : List Step) (old new : FileTree) (fresh : List Node) (target : FileTree) (began now last : History) (before behind : FileTree) (course : History → Course)
    (result : Result (Option ℕ) CallName) → LeavesOnly began now (IsInterruptedBy (IsOfKind kind steps) steps old new fresh)
    → LeadsHome (IsInterruptedBy (IsOfKind kind steps) steps old new fresh) target began now course
    → Follows (course (Then now Sync)) (Then now Sync) last before behind result
    → ComesHome (IsInterruptedBy (IsOfKind kind steps) steps old new fresh) target began last result
