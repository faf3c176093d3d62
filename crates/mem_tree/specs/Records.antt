-- What a record of changing calls stands for, and what a schedule says of a call.
use Rattle.std.specs.Prelude.{◌≡◌, ℕ, ◌==◌, ◌<◌, ◌≤◌, ◌^◌, Bool, true, ◌&&◌, Option, List, [], ◌∷◌, ◌++◌, if◌then◌else◌}
use Rattle.std.specs.Option.{option_map}
use Rattle.std.specs.List.{find, list_any}
use Rattle.tree_core.specs.declared.node.Change.{Change}
use Rattle.tree_core.specs.FileTree.{FileTree, CanDo, done, next_after}
use Rattle.tree_core.specs.History.{History, Began, Then, current_tree, next_number, is_sync}
use Rattle.mem_tree.specs.declared.attempt.Attempt.{Attempt}
use Rattle.mem_tree.specs.declared.store.Store.{Store}
use Rattle.mem_tree.specs.Stores.{tree_of}
use Rattle.mem_tree.specs.Times.{Times, times_after}

-- the history goes on by the calls of the record that were done
abbrev pub history_with : History → Attempt → History
history_with h a = if a.is_done then Then h a.change else h

abbrev pub history_after : History → List Attempt → History
history_after h [] = h
history_after h (a ∷ left) = history_after (history_with h a) left

abbrev pub history_of : Store → ℕ → List Attempt → History
history_of began first_number attempts = history_after (Began (tree_of began) first_number) attempts

-- A call of the record has the number that a file of it got, and where it was done it was allowed.
pub record Was (h : History) (a : Attempt) : Type 0 where
  pub numbered : a.number ≡ next_number h
  pub allowed : a.is_done ≡ true → CanDo a.change (current_tree h)

abbrev pub AllWere : History → List Attempt → Type 0
AllWere h [] = Unit {0}
AllWere h (a ∷ left) = Was h a × AllWere (history_with h a) left

-- what a call of the record made of the tree before it, and of its times
abbrev pub tree_with : Attempt → FileTree → FileTree
tree_with a t = if a.is_done then done a.change a.number t else t

abbrev pub times_with : Attempt → Times → Times
times_with a times = if a.is_done then times_after a.change times else times

-- a sync that was done, though it may have failed
abbrev pub is_done_sync : Attempt → Bool
is_done_sync a = a.is_done && is_sync a.change

-- what is pending behind a call, by what was pending before it
abbrev pub pending_with : Attempt → List (ℕ × Change) → List (ℕ × Change)
pending_with a calls = if a.is_done then (if is_sync a.change then [] else calls ++ (a.number, a.change) ∷ []) else calls

-- what a schedule says of a changing call: None, or whether it is done though it fails. The first entry counts.
abbrev pub scheduled : List (ℕ × Bool) → ℕ → Option Bool
scheduled schedule call = option_map (λ (entry : ℕ × Bool). entry.1) (find (λ (entry : ℕ × Bool). entry.0 == call) schedule)

-- whether a schedule names a look
abbrev pub is_listed : List ℕ → ℕ → Bool
is_listed schedule call = list_any (λ c. c == call) schedule

-- the call takes a number, and there is none left in 64 bits for the next file
abbrev pub NeedsMore : Change → ℕ → Type 0
NeedsMore change next = (next < next_after change next) × (2 ^ 64 ≤ next_after change next)
