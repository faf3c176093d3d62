-- A walk of a tree: the paths that are still to be visited.
use Rattle.std.specs.Prelude.{◌≡◌, ◌≢◌, ◌⊎◌, ℕ, ◌<◌, ◌≤◌, ◌^◌, List, [], ◌∷◌, ◌++◌, map, flat_map, reverse, length}
use Rattle.dired_text.specs.Paths.{Names, path_bytes, max_path_bytes}
use Rattle.tree_core.specs.Fields.{RiseStrictly}
use Rattle.listing_text.specs.declared.line.Line.{Line}
use Rattle.find_listing.specs.declared.walk.Level.{Level}
use Rattle.find_listing.specs.declared.walk.Step.{Step}
use Rattle.find_listing.specs.declared.walk.Step.TheVariants.{End, TooLong, At}
use Rattle.find_listing.specs.declared.walk.Walk.{Walk}
use Rattle.find_listing.specs.Finds.{IsLineOf}

abbrev pub child : Names → List ℕ → Names
child p n = p ++ n ∷ []

-- the paths of names in a directory
abbrev pub children : Names → List (List ℕ) → List Names
children p names = map (child p) names

-- those of a level, the next one first
abbrev pub paths_in : Level → List Names
paths_in level = children level.dir (reverse level.names.items)

-- those of a walk
abbrev pub pending : Walk → List Names
pending walk = paths_in walk.level ++ flat_map paths_in (reverse walk.above.items)

-- what comes next of these paths, and what is left of them
abbrev pub IsNext : List Names → List Names → Step → Type 0
IsNext old new End = old ≡ []
IsNext old new TooLong = (p : Names) × (old ≡ p ∷ new) × (max_path_bytes < path_bytes p)
IsNext old new (At p) = (old ≡ p ∷ new) × (p ≢ []) × (path_bytes p ≤ max_path_bytes)

-- a line was added for this path, or none
abbrev pub IsAdded : Names → List Line → List Line → Type 0
IsAdded p old new = (new ≡ old) ⊎ ((line : Line) × IsLineOf p line × (new ≡ old ++ line ∷ []))

-- names in this path come next, or none
abbrev pub IsEntered : Names → List Names → List Names → Type 0
IsEntered p old new = (names : List (List ℕ)) × RiseStrictly names × (length names < 2 ^ 64) × (new ≡ children p names ++ old)
