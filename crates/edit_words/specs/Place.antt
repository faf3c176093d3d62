-- Where each path of a tree goes when some paths get another name in their directory and some go elsewhere.
use Rattle.std.specs.Prelude.{◌≡◌, ℕ, Bool, true, false, List, [], ◌∷◌, ◌++◌, map, Option, Some, None}
use Rattle.dired_text.specs.Paths.{Names, rest_below}
use Rattle.edit_words.specs.declared.row.Route.{Route}
use Rattle.edit_words.specs.declared.row.Route.TheVariants.{Stays, Named, Sent}

-- where the child `name` of a directory goes that itself went to `to`
abbrev pub routed : Route → Names → List ℕ → Names
routed Stays to name = to ++ name ∷ []
routed (Named other) to name = to ++ other ∷ []
routed (Sent path) to name = path

-- from the root down: `old` is the path so far, `to` its place, and `rest` what is still below it
abbrev pub placed : (Names → Route) → Names → Names → Names → Names
placed route old to [] = to
placed route old to (name ∷ rest) = placed route (old ++ name ∷ []) (routed (route (old ++ name ∷ [])) to name) rest

-- the new place of a path; the root stays
abbrev pub place : (Names → Route) → Names → Names
place route p = placed route [] [] p

-- ---- paths above a path

-- u is strictly above w
abbrev pub IsAbove : Names → Names → Type 0
IsAbove u w = (name : List ℕ) × (rest : Names) × (w ≡ u ++ name ∷ rest)

abbrev pub is_proper : Option Names → Bool
is_proper None = false
is_proper (Some []) = false
is_proper (Some (n ∷ rest)) = true

-- the same as a test
abbrev pub is_above : Names → Names → Bool
is_above u w = is_proper (rest_below u w)

-- the paths strictly above a path, the root first
abbrev pub ancestors : Names → List Names
ancestors [] = []
ancestors (n ∷ p) = [] ∷ map (λ (q : Names). n ∷ q) (ancestors p)
