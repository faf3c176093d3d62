-- Numbers of paths, and the values that they have.
use Rattle.std.specs.Prelude.{◌≡◌, ℕ, ◌<◌, Bool, true, false, ◌&&◌, List, [], ◌∷◌, length, map, Option, Some}
use Rattle.std.specs.List.{slice_get}
use Rattle.std.specs.Option.{option_and_then}
use Rattle.std.specs.Ordering.{nat_cmp}
use Rattle.std.specs.Cmp.Lexicographic.{slice_cmp}
use Rattle.std.specs.Str.{bytes_eq}
use Rattle.std.specs.BTreeMap.{BTreeMap, get}
use Rattle.dired_text.specs.Paths.{Names}
use Rattle.path_map.specs.declared.map.PathMap.{PathMap}

-- the first names of a path, from none to all
abbrev pub firsts : Names → List Names
firsts [] = [] ∷ []
firsts (n ∷ p) = [] ∷ map (λ (q : Names). n ∷ q) (firsts p)

-- whether a path is above another one
abbrev pub is_above : Names → Names → Bool
is_above p [] = false
is_above [] (n ∷ q) = true
is_above (m ∷ p) (n ∷ q) = bytes_eq m n && is_above p q

-- what is directly below each number, by name
abbrev pub Below : Type 0
Below = List (BTreeMap (List ℕ) ℕ)

abbrev pub child : Below → ℕ → List ℕ → Option ℕ
child below i n = option_and_then (λ m. get (slice_cmp nat_cmp) m n) (slice_get below i)

-- the number to which a path leads from another number
abbrev pub walk : Below → ℕ → Names → Option ℕ
walk below i [] = Some i
walk below i (n ∷ p) = option_and_then (λ j. walk below j p) (child below i n)

module _ {V : Type 0} where
  abbrev pub value_of : List (Option V) → ℕ → Option V
  value_of values i = option_and_then (λ v. v) (slice_get values i)

  -- the value at a path
  abbrev pub value_at : PathMap V → Names → Option V
  value_at m p = option_and_then (value_of m.values.items) (walk m.below.items 0 p)

-- a number is below a lesser one, under one name
pub record IsBelow (below : Below) : Type 0 where
  pub later : (i j : ℕ) (n : List ℕ) → child below i n ≡ Some j → (i < j) × (j < length below)
  pub one : (i k j : ℕ) (n o : List ℕ) → child below i n ≡ Some j → child below k o ≡ Some j → (i ≡ k) × (n ≡ o)

pub record IsPathMap {V : Type 0} (m : PathMap V) : Type 0 where
  pub counted : length m.values.items ≡ length m.below.items
  pub rooted : 0 < length m.below.items
  pub below : IsBelow m.below.items

-- as before, with a number under a name below another one
pub record IsLinked (old new : Below) (at : ℕ) (name : List ℕ) (next : ℕ) : Type 0 where
  pub linked : child new at name ≡ Some next
  pub others : (i : ℕ) (n : List ℕ) → ((i ≡ at) × (n ≡ name) → ⊥) → child new i n ≡ child old i n
  pub length : length new ≡ length old
