-- The moves of a rename, slot by slot.
use Rattle.std.specs.Prelude.{◌++◌, Bool, List, [], ◌∷◌, map, Option, Some, None}
use Rattle.std.specs.List.{filter, list_any}
use Rattle.std.specs.Ordering.{eq_by_cmp}
use Rattle.std.specs.FinMap.{get, insert, remove, keys}
use Rattle.dired_text.specs.Paths.{Names, path_cmp, is_below}
use Rattle.tree_core.specs.FileTree.{moved}
use Rattle.mem_tree.specs.declared.slots.Slot.{Slot}
use Rattle.mem_tree.specs.declared.renaming.Move.{Move}
use Rattle.mem_tree.specs.Slots.{Slots}

-- the old path and the new one of each move
abbrev pub Pairs : Type 0
Pairs = List (Names × Names)

abbrev pub pairs_of : List Move → Pairs
pairs_of moves = map (λ (m : Move). (m.from.items, m.to.items)) moves

-- those of `from` and of all below it
abbrev pub moves_of : Names → Names → Slots → Pairs
moves_of from to slots = map (λ q. (q, moved from to q)) (filter (is_below from) (keys slots))

-- whether something moves to q
abbrev pub is_target : Names → Pairs → Bool
is_target q pairs = list_any (eq_by_cmp path_cmp q) (map (λ p. p.1) pairs)

abbrev pub copied_slot : Option Slot → Names → Slots → Slots
copied_slot None to slots = slots
copied_slot (Some slot) to slots = insert slots to slot

-- with a copy of each slot at its new path
abbrev pub with_copies : Pairs → Slots → Slots
with_copies [] slots = slots
with_copies (p ∷ pairs) slots = with_copies pairs (copied_slot (get slots p.0) p.1 slots)

abbrev pub without_each : List Names → Slots → Slots
without_each [] slots = slots
without_each (p ∷ paths) slots = without_each paths (remove slots p)

-- what stands at q behind the rename, by what is left of q behind `to` and behind `from`
abbrev pub after_move : Option Names → Option Names → (Names → Option Slot) → Names → Names → Option Slot
after_move (Some rest) behind_from at from q = at (from ++ rest)
after_move None (Some rest) at from q = None
after_move None None at from q = at q
