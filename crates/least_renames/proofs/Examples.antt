-- Examples, by evaluation: a swap goes round and has one knot, a chain has none, and two cycles side by side have two.
use Rattle.std.proofs.Common.{◌≡◌, ℕ, false, List, [], ◌∷◌, codes, refl, Some, None}
use Rattle.edit_words.specs.declared.row.Row.{Row}
use Rattle.plan_moves.specs.Waiting.{waiting, knots}
use Rattle.least_renames.specs.Cycles.{GoesRound}

abbrev renaming : ℕ → List ℕ → List ℕ → Row
renaming line from dest = record { line = line; source = Some (from ∷ []); was = None; to = Some (dest ∷ []); retargets = false; mode = None; removes = false }

abbrev swap : List Row
swap = renaming 4 (codes "a") (codes "b") ∷ renaming 5 (codes "b") (codes "a") ∷ []

swap_goes_round : GoesRound swap
swap_goes_round = refl

swap_knots : knots (waiting swap) ≡ 1
swap_knots = refl

chain_knots : knots (waiting (renaming 4 (codes "a") (codes "b") ∷ renaming 5 (codes "b") (codes "c") ∷ [])) ≡ 0
chain_knots = refl

two_cycles : knots (waiting (renaming 1 (codes "a") (codes "b") ∷ renaming 2 (codes "b") (codes "a") ∷ renaming 3 (codes "c") (codes "d") ∷ renaming 4 (codes "d") (codes "e") ∷ renaming 5 (codes "e") (codes "c") ∷ [])) ≡ 2
two_cycles = refl
