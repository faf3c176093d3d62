-- What a walk has still to visit.
use Rattle.std.proofs.Common.{◌≡◌, ℕ, List, [], ◌∷◌, ◌++◌, flat_map, reverse, ◌∙◌, ap}
use Rattle.std.proofs.lemmas.List.{reverse-append}
use Rattle.dired_text.specs.Paths.{Names}
use Rattle.find_listing.specs.declared.walk.Level.{Level}
use Rattle.find_listing.specs.Walks.{child, children, paths_in}

-- the last name is the next one
pub next_name : (dir : Names) (names left : List (List ℕ)) (n : List ℕ) → names ≡ left ++ n ∷ [] → children dir (reverse names) ≡ child dir n ∷ children dir (reverse left)
next_name dir names left n is = ap (λ (ns : List (List ℕ)). children dir (reverse ns)) is ∙ ap (children dir) (reverse-append left (n ∷ []))

-- the last level is the next one
pub next_level : (above left : List Level) (level : Level) → above ≡ left ++ level ∷ [] → flat_map paths_in (reverse above) ≡ paths_in level ++ flat_map paths_in (reverse left)
next_level above left level is = ap (λ (ls : List Level). flat_map paths_in (reverse ls)) is ∙ ap (flat_map paths_in) (reverse-append left (level ∷ []))
