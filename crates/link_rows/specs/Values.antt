-- The lists as lists of values.
use Rattle.std.specs.Prelude.{ℕ, zero, suc, ◌≡◌, ◌≢◌, ◌-◌, List, [], ◌∷◌, ◌++◌}
use Rattle.link_rows.specs.Net.{IsList, pushed}
use Rattle.link_rows.specs.Tables.{Table}

-- the value with this number, or none where there are not so many
abbrev pub value_at : {X : Type 0} → List X → ℕ → List X
value_at [] i = []
value_at (v ∷ vs) zero = v ∷ []
value_at (v ∷ vs) (suc i) = value_at vs i

-- the values of the rows of these nodes, in their order
abbrev pub values_of : {X : Type 0} → Table X → List ℕ → List X
values_of t [] = []
values_of t (x ∷ xs) = value_at t.values (x - t.net.heads) ++ values_of t xs

-- the list l holds these values
pub record HasValues {X : Type 0} (t : Table X) (l : ℕ) (vs : List X) : Type 0 where
  pub rows : List ℕ
  pub list : IsList t.net l rows
  pub values : vs ≡ values_of t rows

-- with a new row of this value at the end of the list l
abbrev pub with_pushed : {X : Type 0} → ℕ → X → Table X → Table X
with_pushed l v t = record { net = pushed l t.net; values = t.values ++ v ∷ []; spare = t.spare }

-- A list holds one sequence of values.
abbrev pub HasOneSequence : {X : Type 0} → Table X → Type 0
HasOneSequence t = (l : ℕ) (vs ws : List _) → HasValues t l vs → HasValues t l ws → vs ≡ ws

-- A push adds its value to its list, and the other lists hold what they held.
abbrev pub PushesValue : {X : Type 0} → Table X → X → Type 0
PushesValue t v =
    (l : ℕ) (vs : List _) → HasValues t l vs
    → HasValues (with_pushed l v t) l (vs ++ v ∷ []) × ((m : ℕ) (ws : List _) → HasValues t m ws → m ≢ l → HasValues (with_pushed l v t) m ws)
