-- Which ends of a name a pattern matches.
use Rattle.std.specs.Prelude.{ℕ, Bool, true, false, List, [], ◌∷◌, ◌++◌}
use Rattle.name_patterns.specs.declared.patterns.Piece.{Piece}
use Rattle.name_patterns.specs.declared.patterns.Piece.TheVariants.{AnyRun, AnyOne, One, Set}
use Rattle.name_patterns.specs.Patterns.{matches}

-- whether the pieces match each end of a name, the shortest first
abbrev pub row_of : List Piece → List ℕ → List Bool
row_of pieces [] = matches pieces [] ∷ []
row_of pieces (c ∷ cs) = row_of pieces cs ++ matches pieces (c ∷ cs) ∷ []

abbrev pub is_any_run : Piece → Bool
is_any_run AnyRun = true
is_any_run AnyOne = false
is_any_run (One own) = false
is_any_run (Set negated members) = false
