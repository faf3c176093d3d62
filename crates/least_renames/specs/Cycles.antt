-- Cycles of edits, each to the path of the next one.
use Rattle.std.specs.Prelude.{◌≡◌, true, List, [], ◌∷◌, ◌++◌, map, ◌||◌, Some, Contains}
use Rattle.std.specs.List.{flat_map}
use Rattle.dired_text.specs.Paths.{Names}
use Rattle.edit_words.specs.declared.row.Row.{Row}
use Rattle.edit_words.specs.Place.{IsAbove}
use Rattle.plan_moves.specs.Plan.{is_moving}

-- nothing stands twice in it
abbrev pub HasNoRepeats : {X : Type 0} → List X → Type 0
HasNoRepeats [] = Unit {0}
HasNoRepeats (x ∷ xs) = (Contains xs x → ⊥) × HasNoRepeats xs

-- the new path of each is the source of the next one, and that of the last the source of the first
abbrev pub GoesRound : List Row → Type 0
GoesRound [] = ⊥
GoesRound (r ∷ rs) = map (λ (o : Row). o.to) (r ∷ rs) ≡ map (λ (o : Row). o.source) (rs ++ r ∷ [])

-- A cycle goes round once.
abbrev pub IsCycle : List Row → Type 0
IsCycle c = HasNoRepeats c × GoesRound c

-- the edits of some cycles
abbrev pub edits_of : List (List Row) → List Row
edits_of cycles = flat_map (λ (c : List Row). c) cycles

-- Cycles of some edits, no edit twice in them, and no cycle left: each has an edit in common with one of them.
pub record AreCycles (Moves : Row → Type 0) (cycles : List (List Row)) : Type 0 where
  pub each : (c : List Row) → Contains cycles c → IsCycle c
  pub move : (r : Row) → Contains (edits_of cycles) r → Moves r
  pub once : HasNoRepeats (edits_of cycles)
  pub all : (c : List Row) → IsCycle c → ((r : Row) → Contains c r → Moves r) → (r : Row) × Contains c r × Contains (edits_of cycles) r

-- a moving edit of some changes
abbrev pub IsMovingIn : List Row → Row → Type 0
IsMovingIn rs r = Contains rs r × (is_moving r ≡ true)

-- the source of a moving edit, or of a link that gets another target
abbrev pub IsVacated : List Row → Names → Type 0
IsVacated rs p = (r : Row) × Contains rs r × (r.source ≡ Some p) × ((is_moving r || r.retargets) ≡ true)

-- Changes are flat where no such source is strictly below another one.
abbrev pub AreFlat : List Row → Type 0
AreFlat rs = (p q : Names) → IsVacated rs p → IsVacated rs q → IsAbove p q → ⊥
