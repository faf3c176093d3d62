-- First bytes that two texts have in common.
use Rattle.std.specs.Prelude.{◌≡◌, ℕ, suc, ◌≤◌, ◌==◌, List, [], ◌∷◌, length, take, if◌then◌else◌}

-- The first `shared` bytes of a base and of a text are the same, and no greater number of first bytes is.
pub record IsShared (base text : List ℕ) (shared : ℕ) : Type 0 where
  pub in_base : shared ≤ length base
  pub in_text : shared ≤ length text
  pub same : take shared base ≡ take shared text
  pub greatest : (n : ℕ) → n ≤ length base → n ≤ length text → take n base ≡ take n text → n ≤ shared

-- that number
abbrev pub shared_bytes : List ℕ → List ℕ → ℕ
shared_bytes [] text = 0
shared_bytes (b ∷ base) [] = 0
shared_bytes (b ∷ base) (t ∷ text) = if b == t then suc (shared_bytes base text) else 0
