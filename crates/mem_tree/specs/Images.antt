-- The trees that `images` gives: what comes of the pending calls, sub-list by sub-list.
use Rattle.std.specs.Prelude.{◌≡◌, ◌⊎◌, ℕ, ◌+◌, ◌^◌, ◌==◌, nat_lt, nat_le, Bool, not, List, [], ◌∷◌, ◌++◌, length, map, if◌then◌else◌}
use Rattle.std.specs.Int.{bit_at}
use Rattle.std.specs.List.{range_with_len}
use Rattle.tree_core.specs.declared.node.Change.{Change}
use Rattle.tree_core.specs.FileTree.{FileTree, CanDo, done, next_after}
use Rattle.tree_core.specs.History.{History, Began, Then, IsSound, current_tree, is_sync, torn_call}
use Rattle.mem_tree.specs.declared.store.Store.{Store}
use Rattle.mem_tree.specs.Stores.{tree_of, times_of}
use Rattle.mem_tree.specs.Times.{Times, times_after, times_now}

-- a tree with its times
pub record Stand : Type 0 where
  pub tree : FileTree
  pub times : Times

-- ---- the sub-lists

-- the items at the places, from 0, that pass
abbrev pub picked : {A : Type 0} → (ℕ → Bool) → List A → List A
picked passes [] = []
picked passes (x ∷ xs) = (if passes 0 then x ∷ [] else []) ++ picked (λ place. passes (place + 1)) xs

-- the calls whose bits of the numbers 0, 1, 2 .. are set, that of the first call the lowest
abbrev pub all_sub_lists : {A : Type 0} → List A → List (List A)
all_sub_lists calls = map (λ number. picked (λ place. bit_at number place == 1) calls) (range_with_len 0 (2 ^ length calls))

-- each prefix, by its length
abbrev pub prefixes : {A : Type 0} → List A → List (List A)
prefixes calls = map (λ count. picked (λ place. nat_lt place count) calls) (range_with_len 0 (length calls + 1))

-- each list with one call left out, by its place
abbrev pub all_but_one : {A : Type 0} → List A → List (List A)
all_but_one calls = map (λ left_out. picked (λ place. not (place == left_out)) calls) (range_with_len 0 (length calls))

-- every sub-list for at most ten calls, and of more calls these
abbrev pub sub_lists : {A : Type 0} → List A → List (List A)
sub_lists calls = if nat_le (length calls) 10 then all_sub_lists calls else (prefixes calls ++ all_but_one calls)

-- ---- what becomes of a sub-list

-- a call, done: the number is that of a file that it writes
abbrev pub applied : ℕ × Change → Stand → Stand
applied call s = record { tree = done call.1 call.0 s.tree; times = times_after call.1 s.times }

-- The calls are gone through in their order. One whose condition holds in the tree so far is applied, any other is skipped.
abbrev pub Replays : List (ℕ × Change) → Stand → Stand → Type 0
Replays [] from to = to ≡ from
Replays (call ∷ calls) from to =
    (CanDo call.1 from.tree × Replays calls (applied call from) to) ⊎ ((CanDo call.1 from.tree → ⊥) × Replays calls from to)

-- the call, with an empty file where it writes one
abbrev pub emptied : ℕ × Change → ℕ × Change
emptied call = (call.0, torn_call call.1 [])

-- The two images of a sub-list: once with the written files whole, and once with them empty.
pub record ArePair (calls : List (ℕ × Change)) (from one other : Stand) : Type 0 where
  pub whole : Replays calls from one
  pub empty : Replays (map emptied calls) from other

-- the images are, two by two, those of these sub-lists
abbrev pub AreImages : List (List (ℕ × Change)) → Stand → List Stand → Type 0
AreImages [] from images = images ≡ []
AreImages (calls ∷ left) from [] = ⊥
AreImages (calls ∷ left) from (one ∷ []) = ⊥
AreImages (calls ∷ left) from (one ∷ other ∷ images) = ArePair calls from one other × AreImages left from images

-- ---- from which tree

-- the history up to the last sync
abbrev pub synced_history : History → History
synced_history (Began t next) = Began t next
synced_history (Then h change) = if is_sync change then h else synced_history h

-- what stands behind a history that began with these times
abbrev pub stand_of : History → Times → Stand
stand_of h times = record { tree = current_tree h; times = times_now h times }

abbrev pub stand_in : Store → Stand
stand_in s = record { tree = tree_of s; times = times_of s }

-- ---- where calls can be replayed

-- each call has the number that a file of it gets when they are all done one after another, the first with this number
abbrev pub AreNumbered : ℕ → List (ℕ × Change) → Type 0
AreNumbered next [] = Unit {0}
AreNumbered next (call ∷ calls) = (call.0 ≡ next) × AreNumbered (next_after call.1 next) calls

-- the number that the next file gets behind them
abbrev pub number_behind : ℕ → List (ℕ × Change) → ℕ
number_behind next [] = next
number_behind next (call ∷ calls) = number_behind (next_after call.1 next) calls

-- the numbers of the calls are new to the tree
pub record CanReplay (calls : List (ℕ × Change)) (t : FileTree) : Type 0 where
  pub next : ℕ
  pub sound : IsSound (Began t next)
  pub numbered : AreNumbered next calls

-- and the last of them is followed by this one
pub record EndsAt (next : ℕ) (calls : List (ℕ × Change)) (t : FileTree) : Type 0 where
  pub can : CanReplay calls t
  pub ends : number_behind can.next calls ≡ next
