-- What a text names from a directory, by its text alone: no link is followed and nothing is looked at.
use Rattle.std.specs.Prelude.{◌≡◌, ◌⊎◌, ℕ, ◌+◌, ◌==◌, ◌||◌, nat_lt, nat_le, List, [], ◌∷◌, ◌++◌, length, position, Option, Some, None, Result, Ok, Err, if◌then◌else◌, codes}
use Rattle.std.specs.Str.{bytes_eq}
use Rattle.dired_text.specs.Paths.{Names, slash, parent, path_bytes, max_path_bytes}
use Rattle.dired_text.specs.declared.resolving.NameError.{NameError}
use Rattle.dired_text.specs.declared.resolving.NameError.TheVariants.{Empty, Absolute, AboveRoot, TooLong, Nul, Root, Memory}

-- one byte more in front of the first of these
abbrev pub with_first : ℕ → List (List ℕ) → List (List ℕ)
with_first b [] = (b ∷ []) ∷ []
with_first b (c ∷ cs) = (b ∷ c) ∷ cs

-- the components of a text: what stands between its slashes
abbrev pub components : List ℕ → List (List ℕ)
components [] = [] ∷ []
components (b ∷ bs) = if b == slash then [] ∷ components bs else with_first b (components bs)

abbrev pub above : Names → Result Names NameError
above [] = Err AboveRoot
above (n ∷ p) = Ok (parent (n ∷ p))

-- a component that is to be a name, at this place of the text: the place of a NUL in it, if any, comes third
abbrev pub named : Names → ℕ → List ℕ → Option ℕ → Result Names NameError
named dir place c (Some k) = Err (Nul (place + k))
named dir place c None = Ok (dir ++ c ∷ [])

-- from a directory into one component, which begins at this place of the text
abbrev pub entered : Names → ℕ → List ℕ → Result Names NameError
entered dir place c =
    if bytes_eq c [] || bytes_eq c (codes ".") then Ok dir
    else if bytes_eq c (codes "..") then above dir
    else if nat_lt 255 (length c) then Err (TooLong place)
    else named dir place c (position (λ b. b == 0) c)

-- f of what was reached, or the refusal
abbrev pub then_from : Result Names NameError → (Names → Result Names NameError) → Result Names NameError
then_from (Ok next) f = f next
then_from (Err e) f = Err e

-- through all of them, up to the first refusal
abbrev pub walked : Names → ℕ → List (List ℕ) → Result Names NameError
walked dir place [] = Ok dir
walked dir place (c ∷ cs) = then_from (entered dir place c) (λ next. walked next (place + length c + 1) cs)

-- where it ended, of a text with so many bytes
abbrev pub ended : ℕ → Result Names NameError → Result Names NameError
ended bytes (Err e) = Err e
ended bytes (Ok []) = Err Root
ended bytes (Ok (n ∷ p)) = if nat_le (path_bytes (n ∷ p)) max_path_bytes then Ok (n ∷ p) else Err (TooLong bytes)

abbrev pub resolved : Names → List ℕ → Result Names NameError
resolved dir [] = Err Empty
resolved dir (b ∷ bs) = if b == slash then Err Absolute else ended (length (b ∷ bs)) (walked dir 0 (components (b ∷ bs)))

-- a walk that changed some names into these, was refused as was wanted, or found no memory
abbrev pub Walks : Result Names NameError → Result (Unit {0}) NameError → Names → Type 0
Walks wanted (Ok _) names = wanted ≡ Ok names
Walks wanted (Err e) names = (e ≡ Memory) ⊎ (wanted ≡ Err e)
