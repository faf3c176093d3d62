-- The rows of all lists, with the values that they hold.
use Rattle.std.specs.Prelude.{ℕ, ◌+◌, ◌-◌, List, [], ◌∷◌, Option, Some, None, refl, nat_lt, if◌then◌else◌}
use Rattle.std.specs.Coded.{Coded, code_by, coded×, coded_ℕ, coded_list}
use Rattle.link_rows.specs.Net.{Net, net_code}

-- `spare` is the number of rows for which there is room
pub record Table (X : Type 0) : Type 0 where
  pub net : Net
  pub values : List X
  pub spare : ℕ

abbrev pub table_code : {X : Type 0} → Coded X → Coded (Table X)
table_code c =
    code_by (Net × (List _ × ℕ)) (coded× net_code (coded× (coded_list c) coded_ℕ))
    (λ t. (t.net, (t.values, t.spare))) (λ p. record { net = p.0; values = p.1.0; spare = p.1.1 }) (λ _. refl)

-- the node of a row: the heads of the lists come first
abbrev pub node : Net → ℕ → ℕ
node s row = s.heads + row

-- the row of the first of these nodes, or None where there is none
abbrev pub first_row : Net → List ℕ → Option ℕ
first_row s [] = None
first_row s (x ∷ xs) = Some (x - s.heads)

-- the row of a node, or None at a head
abbrev pub row_of : Net → ℕ → Option ℕ
row_of s x = if nat_lt x s.heads then None else Some (x - s.heads)

-- the node of this row, or the head of the list
abbrev pub place_of : Net → ℕ → Option ℕ → ℕ
place_of s l None = l
place_of s l (Some row) = node s row
