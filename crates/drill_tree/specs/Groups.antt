-- What the groups of a drill hold, and what becomes of it. Paths are from the group's directory.
use Rattle.std.specs.Prelude.{ℕ, ◌+◌, ◌/◌, ◌%◌, ◌==◌, Bool, true, false, List, [], ◌∷◌, ◌++◌, map, codes, if◌then◌else◌}
use Rattle.std.specs.List.{range_with_len}
use Rattle.dired_text.specs.Paths.{Names}
pub use Rattle.drill_tree.specs.declared.entries.Held.{Held}
use Rattle.drill_tree.specs.declared.group.Group.{Group}
use Rattle.drill_tree.specs.declared.group.Group.TheVariants.{Chain, Cycle, Nested, Replacing, Swallowing}
use Rattle.drill_tree.specs.declared.moves.Move.{Move}

-- the numbers below n
abbrev pub below : ℕ → List ℕ
below n = range_with_len 0 n

-- The kind of a group is its number mod 5, and the length of a cycle goes from 2 to 7.
abbrev pub group_by : ℕ → ℕ → Group
group_by kind turn =
    if kind == 0 then Chain
    else if kind == 1 then Cycle (2 + turn % 6)
    else if kind == 2 then Nested
    else if kind == 3 then Replacing
    else Swallowing

abbrev pub group_of : ℕ → Group
group_of g = group_by (g % 5) (g / 5)

-- `g` and the number in six digits
abbrev pub group_name : ℕ → List ℕ
group_name g = codes "g" ++ (48 + g / 100000) ∷ (48 + g / 10000 % 10) ∷ (48 + g / 1000 % 10) ∷ (48 + g / 100 % 10) ∷ (48 + g / 10 % 10) ∷ (48 + g % 10) ∷ []

-- ---- what a group holds

abbrev pub file : Names → Held
file p = record { path = p; is_dir = false }

abbrev pub directory : Names → Held
directory p = record { path = p; is_dir = true }

abbrev pub one : List ℕ → Names
one name = name ∷ []

abbrev pub two : List ℕ → List ℕ → Names
two dir name = dir ∷ name ∷ []

-- the file of this number of a cycle: `c0`, `c1` and so on
abbrev pub cycle_name : ℕ → List ℕ
cycle_name i = codes "c" ++ (48 + i) ∷ []

abbrev pub held : Group → List Held
held Chain = file (one (codes "a")) ∷ file (one (codes "b")) ∷ file (one (codes "c")) ∷ []
held (Cycle len) = map (λ i. file (one (cycle_name i))) (below len)
held Nested = directory (one (codes "s")) ∷ file (two (codes "s") (codes "x")) ∷ []
held Replacing = file (one (codes "a")) ∷ file (one (codes "b")) ∷ []
held Swallowing = directory (one (codes "s")) ∷ file (two (codes "s") (codes "x")) ∷ []

-- ---- the edits of a group

abbrev pub moves_file : Names → Names → Move
moves_file p q = record { source = p; is_dir = false; to = q }

abbrev pub moves_directory : Names → Names → Move
moves_directory p q = record { source = p; is_dir = true; to = q }

-- A chain moves on by one, and so does a cycle; a directory is renamed with an entry in it; a file replaces another; and a file takes
-- the name of its directory, which gets another.
abbrev pub moves : Group → List Move
moves Chain =
    moves_file (one (codes "a")) (one (codes "b"))
    ∷ moves_file (one (codes "b")) (one (codes "c"))
    ∷ moves_file (one (codes "c")) (one (codes "d"))
    ∷ []
moves (Cycle len) = map (λ i. moves_file (one (cycle_name i)) (one (cycle_name ((i + 1) % len)))) (below len)
moves Nested = moves_file (two (codes "s") (codes "x")) (two (codes "s") (codes "y")) ∷ moves_directory (one (codes "s")) (one (codes "r")) ∷ []
moves Replacing = moves_file (one (codes "a")) (one (codes "b")) ∷ []
moves Swallowing = moves_file (two (codes "s") (codes "x")) (one (codes "s")) ∷ moves_directory (one (codes "s")) (one (codes "r")) ∷ []
