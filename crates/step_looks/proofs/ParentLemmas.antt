-- The parent of a path has at most its bytes.
use Rattle.std.proofs.Common.{◌≡◌, ◌≤◌, ℕ, ◌+◌, zero, suc, List, [], ◌∷◌, ◌++◌, length, take, arith, length-append}
use Rattle.dired_text.specs.Paths.{Names, slashed, path_bytes}

-- one name more
longer : (n s t : List ℕ) → length s ≤ length t → length (n ++ s) ≤ length (n ++ t)
longer n s t less = let a : length (n ++ s) ≡ length n + length s = length-append n s in let b : length (n ++ t) ≡ length n + length t = length-append n t in omega (arith, a, b, less)

slashed_first : (k : ℕ) (p : Names) → length (slashed (take k p)) ≤ length (slashed p)
slashed_first zero p = omega arith
slashed_first (suc k) [] = omega arith
slashed_first (suc k) (n ∷ p) = let later : length (n ++ slashed (take k p)) ≤ length (n ++ slashed p) = longer n _ _ (slashed_first k p) in omega (arith, later)

-- the first names of a path have at most its bytes
pub first_is_short : (k : ℕ) (p : Names) → path_bytes (take k p) ≤ path_bytes p
first_is_short zero p = omega arith
first_is_short (suc k) [] = omega arith
first_is_short (suc k) (n ∷ p) = longer n _ _ (slashed_first k p)
