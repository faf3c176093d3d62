-- Rows that stand in no list: no call moves them, so that they may be relinked after other calls.
use Rattle.std.specs.Prelude.{ℕ, ◌≡◌, ◌≢◌, ◌<◌, ◌≤◌, List, [], ◌∷◌, ◌++◌, Contains}
use Rattle.link_rows.specs.Net.{Net, CanRelink, IsList, cut_out, last_of, next_of, nodes, prev_of, pushed, relinked, spliced, unlinked}

-- the row of this node stands in no list
pub record IsUnlinked (s : Net) (r : ℕ) : Type 0 where
  pub row : s.heads ≤ r
  pub pushed : r < nodes s
  pub out : (l : ℕ) (xs : List ℕ) → IsList s l xs → Contains xs r → ⊥

-- From s to t it keeps the nodes between which it stood.
abbrev pub KeepsNeighbours : Net → ℕ → Net → Type 0
KeepsNeighbours s r t = (next_of t r ≡ next_of s r) × (prev_of t r ≡ prev_of s r)

-- A row that stands in no list keeps them,
-- where a row is pushed,
abbrev pub KeptByPush : Net → Type 0
KeptByPush s = (l r : ℕ) (xs : List ℕ) → IsList s l xs → IsUnlinked s r → KeepsNeighbours s r (pushed l s)

-- where another one is unlinked,
abbrev pub KeptByUnlink : Net → Type 0
KeptByUnlink s = (l q r : ℕ) (xs ys : List ℕ) → IsList s l (xs ++ q ∷ ys) → IsUnlinked s r → KeepsNeighbours s r (unlinked q s)

-- where another one is relinked,
abbrev pub KeptByRelink : Net → Type 0
KeptByRelink s =
    (l q r : ℕ) (xs ys : List ℕ) → CanRelink s q → IsList s l (xs ++ ys) → last_of l xs ≡ prev_of s q → IsUnlinked s r → r ≢ q → KeepsNeighbours s r (relinked q s)

-- where a list that isn't empty is spliced into another,
abbrev pub KeptBySplice : Net → Type 0
KeptBySplice s =
    (l a o r : ℕ) (xs ys bs : List ℕ) → IsList s l (xs ++ ys) → last_of l xs ≡ a → IsList s o bs → l ≢ o → IsUnlinked s r → KeepsNeighbours s r (spliced a o s)

-- and where some are cut out.
abbrev pub KeptByCut : Net → Type 0
KeptByCut s =
    (l f e o r : ℕ) (xs rs ys : List ℕ) → IsList s l (xs ++ ((f ∷ rs) ++ ys)) → last_of f rs ≡ e → IsList s o [] → l ≢ o → IsUnlinked s r → KeepsNeighbours s r (cut_out f e o s)

-- Each row stands in one list at most, and there once.
abbrev pub IsInOneList : Net → Type 0
IsInOneList s = (l m r : ℕ) (xs ys : List ℕ) → IsList s l xs → IsList s m ys → Contains xs r → Contains ys r → l ≡ m

abbrev pub StandsOnce : Net → Type 0
StandsOnce s = (l r : ℕ) (xs ys : List ℕ) → IsList s l (xs ++ r ∷ ys) → (Contains xs r → ⊥) × (Contains ys r → ⊥)
