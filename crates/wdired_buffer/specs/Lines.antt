-- Texts as lines.
use Rattle.std.specs.Prelude.{ℕ, ◌==◌, List, [], ◌∷◌, ◌++◌, Result, Ok, Err, if◌then◌else◌}
use Rattle.dired_text.specs.Resolve.{with_first}

abbrev pub newline : ℕ
newline = 10

-- the lines of a text: each newline ends one, and bytes behind the last newline are one more
abbrev pub lines : List ℕ → List (List ℕ)
lines [] = []
lines (b ∷ bs) = if b == newline then [] ∷ lines bs else with_first b (lines bs)

-- these in front of what the later lines give, or their refusal
abbrev pub in_front : {X E : Type 0} → List X → Result (List X) E → Result (List X) E
in_front xs (Ok ys) = Ok (xs ++ ys)
in_front xs (Err e) = Err e
