-- Floors, by the numbers of paths.
use Rattle.std.specs.Prelude.{ℕ, max, List, [], ◌∷◌, get_or, set, Option, Some, None}

-- the floor of a number, and 0 where there is none
abbrev pub floor_at : List ℕ → Option ℕ → ℕ
floor_at floors None = 0
floor_at floors (Some i) = get_or floors i 0

-- the highest of these
abbrev pub highest_of : List ℕ → List (Option ℕ) → ℕ
highest_of floors [] = 0
highest_of floors (o ∷ os) = max (floor_at floors o) (highest_of floors os)

-- with the floor of a number raised to n
abbrev pub raised_at : ℕ → Option ℕ → List ℕ → List ℕ
raised_at n None floors = floors
raised_at n (Some i) floors = set floors i (max (get_or floors i 0) n)

-- with the floors of all these
abbrev pub raised_all : ℕ → List (Option ℕ) → List ℕ → List ℕ
raised_all n [] floors = floors
raised_all n (o ∷ os) floors = raised_all n os (raised_at n o floors)
