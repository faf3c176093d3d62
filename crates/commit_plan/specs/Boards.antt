-- Who waits for whom while a plan is made.
use Rattle.std.specs.Prelude.{◌≡◌, ◌⊎◌, ◌↔◌, ℕ, ◌<◌, ◌≤◌, Bool, true, false, not, ◌||◌, List, length, Option, Some, None, Contains, Vec}
use Rattle.std.specs.List.{list_any, slice_get}
use Rattle.std.specs.Ordering.{nat_cmp, on, flip_args, then_cmp}
use Rattle.std.specs.declared.cmp.Ordering.{Ordering}
use Rattle.std.specs.BTreeMap.{BTreeMap, get}
use Rattle.dired_text.specs.Paths.{Names, path_cmp}
use Rattle.commit_steps.specs.declared.step.Step.{Step}
use Rattle.edit_words.specs.declared.row.Row.{Row}
use Rattle.edit_words.specs.Place.{IsAbove}
use Rattle.edit_words.specs.Rows.{is_same_path}
use Rattle.edit_words.specs.WellFormed.{IsNoRoot}
use Rattle.plan_moves.specs.Waiting.{is_in_place}
use Rattle.commit_plan.specs.declared.changes.Stand.{Stand}
use Rattle.commit_plan.specs.declared.changes.Stand.TheVariants.{Left, Waits}
use Rattle.commit_plan.specs.declared.changes.Change.{Change}
use Rattle.commit_plan.specs.declared.board.Board.{Board}
use Rattle.commit_plan.specs.declared.board.Outlook.{Outlook}
use Rattle.commit_plan.specs.declared.board.Outlook.TheVariants.{Done, Free, Awaits}
use Rattle.commit_plan.specs.Stands.{AreSpelled, IsCarried, LinesApart, Moved, change, is_ready_at, is_source_now, keeps_now, turns, waits_at_source}

-- ---- who keeps what is above it

-- whether it waits, and keeps what is above its source where it is
abbrev pub keeps_above : Row → Stand → Bool
keeps_above r Left = false
keeps_above r (Waits away at to) = not away || is_in_place r

-- the change k keeps what is above its source p
abbrev pub IsKeeper : List Change → ℕ → Names → Type 0
IsKeeper cs k p = (c : Change) × (slice_get cs k ≡ Some c) × (keeps_above c.row c.stand ≡ true) × (c.row.source ≡ Some p)

-- the map has these changes by their sources
abbrev pub HasKeepers : List Change → BTreeMap Names ℕ → Type 0
HasKeepers cs m = (p : Names) (k : ℕ) → (get path_cmp m p ≡ Some k) ↔ IsKeeper cs k p

-- one of them is below p
abbrev pub IsKeeperBelow : BTreeMap Names ℕ → Names → ℕ → Type 0
IsKeeperBelow m p k = (q : Names) × (get path_cmp m q ≡ Some k) × IsAbove p q

abbrev pub NoKeeperBelow : BTreeMap Names ℕ → Names → Type 0
NoKeeperBelow m p = (q : Names) → IsAbove p q → get path_cmp m q ≡ None

-- the change k waits at its source, which is p
abbrev pub IsAtSource : List Change → ℕ → Names → Type 0
IsAtSource cs k p = (c : Change) × (slice_get cs k ≡ Some c) × (waits_at_source c.stand ≡ true) × (c.row.source ≡ Some p)

abbrev pub NoneAtSource : List Change → Names → Type 0
NoneAtSource cs p = (k : ℕ) → IsAtSource cs k p → ⊥

-- no two changes have one source
abbrev pub HasOwnSources : List Change → Type 0
HasOwnSources cs = (j k : ℕ) (b c : Change) (p : Names) → slice_get cs j ≡ Some b → slice_get cs k ≡ Some c → b.row.source ≡ Some p → c.row.source ≡ Some p → j ≡ k

abbrev pub is_from : Option Names → Names → Bool
is_from None p = false
is_from (Some s) p = is_same_path s p

-- ---- who waits for whom

abbrev pub AreRooted : List Change → Type 0
AreRooted cs = (k : ℕ) (c : Change) → slice_get cs k ≡ Some c → IsNoRoot c.row

-- As long as both stand so, the second change isn't ready.
abbrev pub Blocks : Change → Change → Type 0
Blocks b c = (cs : List Change) (j k : ℕ) → slice_get cs j ≡ Some b → slice_get cs k ≡ Some c → is_ready_at cs k ≡ false

abbrev pub BlocksAt : List Change → ℕ → ℕ → Type 0
BlocksAt cs j k = (b : Change) × (c : Change) × (slice_get cs j ≡ Some b) × (slice_get cs k ≡ Some c) × Blocks b c

-- the change j waits at the path `to` at its source, or keeps the path `at`, where another one waits at its source
abbrev pub IsBlocker : List Change → ℕ → Bool → Names → Names → Type 0
IsBlocker cs j away at to = (b : Change) × (slice_get cs j ≡ Some b) × (is_source_now to b ≡ true ⊎ ((away ≡ false) × (keeps_now at b ≡ true)))

-- and no change does
abbrev pub IsUnblocked : List Change → Bool → Names → Names → Type 0
IsUnblocked cs away at to = (list_any (is_source_now to) cs ≡ false) × (away ≡ false → list_any (keeps_now at) cs ≡ false)

-- what a change may do
abbrev pub IsOutlook : List Change → ℕ → Outlook → Type 0
IsOutlook cs k Done = (r : Row) × (slice_get cs k ≡ Some (change r Left))
IsOutlook cs k Free = is_ready_at cs k ≡ true
IsOutlook cs k (Awaits j) = BlocksAt cs j k

-- the change k is in the list of the change j
abbrev pub Waiter : {Z : Type 0} → List (Vec ℕ Z) → ℕ → ℕ → Type 0
Waiter {Z} ls j k = (v : Vec ℕ Z) × (slice_get ls j ≡ Some v) × Contains v.items k

-- The change i was put into the list of the change j.
pub record IsNoted {Z : Type 0} (old : List (Vec ℕ Z)) (j i : ℕ) (new : List (Vec ℕ Z)) : Type 0 where
  pub sized : length new ≡ length old
  pub noted : Waiter new j i
  pub kept : (b k : ℕ) → Waiter old b k → Waiter new b k
  pub only : (b k : ℕ) → Waiter new b k → Waiter old b k ⊎ (k ≡ i)

-- The list of the change i was put behind the queue.
pub record IsReleased {Z : Type 0} (old : List (Vec ℕ Z)) (i : ℕ) (queue : List ℕ) (new : List (Vec ℕ Z)) (longer : List ℕ) : Type 0 where
  pub sized : length new ≡ length old
  pub moved : (k : ℕ) → Waiter old i k → Contains longer k
  pub queued : (k : ℕ) → Contains queue k → Contains longer k
  pub kept : (b k : ℕ) → (b ≡ i → ⊥) → Waiter old b k → Waiter new b k
  pub only : (b k : ℕ) → Waiter new b k → Waiter old b k
  pub from : (k : ℕ) → Contains longer k → Contains queue k ⊎ Waiter old i k

-- ---- the whole

-- What always holds.
pub record IsSound (b : Board) : Type 0 where
  pub spelled : AreSpelled b.changes.items
  pub apart : LinesApart b.changes.items
  pub rooted : AreRooted b.changes.items
  pub keepers : HasKeepers b.changes.items b.keepers
  pub sized : length b.awaiting.items ≡ length b.changes.items
  pub waiters : (j k : ℕ) → Waiter b.awaiting.items j k → k < length b.changes.items
  pub queued : (k : ℕ) → Contains b.queue.items k → k < length b.changes.items

-- A change waits no longer, or it is to be looked at, as one of these or of the queue, or another blocks it, in whose list it is.
pub data HasTurn (b : Board) (these : List ℕ) (k : ℕ) : Type 0 where
  left : (r : Row) → slice_get b.changes.items k ≡ Some (change r Left) → HasTurn b these k
  one_of : Contains these k → HasTurn b these k
  queues : Contains b.queue.items k → HasTurn b these k
  listed : (j : ℕ) → Waiter b.awaiting.items j k → BlocksAt b.changes.items j k → HasTurn b these k

abbrev pub HaveTurns : Board → List ℕ → Type 0
HaveTurns b these = (k : ℕ) → k < length b.changes.items → HasTurn b these k

-- The change i was looked at: it was ready and is carried out, or nothing moved.
abbrev pub IsSettled : Board → ℕ → Board → Option Step → Type 0
IsSettled old i new None = (new.changes.items ≡ old.changes.items) × (new.queue.items ≡ old.queue.items)
IsSettled old i new (Some step) = (is_ready_at old.changes.items i ≡ true) × IsCarried old.changes.items i new.changes.items step

-- Ready changes were carried out, which added steps.
pub record IsRun (old new : List Change) (before after : List Step) : Type 0 where
  pub moved : (rs : List Row) (n : ℕ) → Moved rs n old before → Moved rs n new after
  pub fewer : turns new ≤ turns old
  pub stayed : (k : ℕ) (p : Names) → IsAtSource new k p → IsAtSource old k p

-- ---- the order in which they make room

-- a source of more names comes first, and sources of as many come in the order of paths
abbrev pub deeper_cmp : Names → Names → Ordering
deeper_cmp = then_cmp (flip_args (on (λ (p : Names). length p) nat_cmp)) path_cmp

abbrev pub source_of : Row → Option Names
source_of r = r.source
