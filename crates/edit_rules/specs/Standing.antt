-- What was found at paths, by kind.
use Rattle.std.specs.Prelude.{◌≡◌, ◌⊎◌, ◌<◌, ℕ, ◌+◌, Bool, true, false, if◌then◌else◌, List, [], ◌∷◌, ◌++◌, length, Option, Some, None}
use Rattle.std.specs.Option.{option_map}
use Rattle.std.specs.BTreeMap.{get}
use Rattle.dired_text.specs.Paths.{Names, path_cmp}
use Rattle.edit_words.specs.declared.findings.Findings.{Findings}
use Rattle.edit_words.specs.declared.row.Route.{Route}
use Rattle.edit_words.specs.declared.row.Route.TheVariants.{Sent}
use Rattle.edit_words.specs.declared.seen.Seen.{Seen}
use Rattle.edit_words.specs.declared.seen.Seen.TheVariants as seen
use Rattle.path_map.specs.declared.map.PathMap.{PathMap}
use Rattle.path_map.specs.Walks.{value_at}
use Rattle.edit_rules.specs.declared.claims.Claim.{Claim}
use Rattle.edit_rules.specs.declared.standing.Found.{Found}
use Rattle.edit_rules.specs.declared.standing.Found.TheVariants.{Nothing, Dir, Other}
use Rattle.edit_rules.specs.Claims.{first_line, lesser}

abbrev pub found_as : Option Seen → Found
found_as None = Nothing
found_as (Some (seen.Dir mode)) = Dir
found_as (Some (seen.Link target)) = Other
found_as (Some (seen.File number mode)) = Other

-- something that isn't a directory
abbrev pub is_other_found : Option Found → Bool
is_other_found None = false
is_other_found (Some Nothing) = false
is_other_found (Some Dir) = false
is_other_found (Some Other) = true

abbrev pub is_standing : Option Found → Bool
is_standing None = false
is_standing (Some Nothing) = false
is_standing (Some Dir) = true
is_standing (Some Other) = true

-- the kinds are those of the findings
abbrev pub IsStanding : PathMap Found → Findings → Type 0
IsStanding standing f = (p : Names) → value_at standing p ≡ option_map found_as (get path_cmp f.found p)

-- the place of the first names of a path: they are none, or so many and sent there
abbrev pub IsBegun : ℕ → Option Route → ℕ → Names → Type 0
IsBegun len route start to = ((start ≡ 0) × (to ≡ [])) ⊎ ((start ≡ len) × (0 < len) × (route ≡ Some (Sent to)))

-- the bytes of a path of so many bytes, and of each with a name more, but for the last, where nothing stands
abbrev pub bytes_from : ℕ → Names → List (Option Found) → ℕ
bytes_from len [] found = 0
bytes_from len (name ∷ rest) [] = 0
bytes_from len (name ∷ rest) (f ∷ found) = (if is_standing f then 0 else len) + bytes_from (len + 1 + length name) rest found

-- the bytes of the paths above a path where nothing stands; the root has none
abbrev pub bytes_missing : Names → List (Option Found) → ℕ
bytes_missing [] found = 0
bytes_missing (name ∷ rest) [] = 0
bytes_missing (name ∷ rest) (f ∷ found) = bytes_from (length name) rest found

-- those of these paths at which nothing stands
abbrev pub paths_missing : Names → Names → List (Option Found) → List Names
paths_missing old [] found = []
paths_missing old (name ∷ rest) [] = []
paths_missing old (name ∷ rest) (f ∷ found) = (if is_standing f then [] else old ∷ []) ++ paths_missing (old ++ name ∷ []) rest found

-- the first of these paths at which something other than a directory stands
abbrev pub other_in : Names → Names → List (Option Found) → Option Names
other_in old [] found = None
other_in old (name ∷ rest) [] = None
other_in old (name ∷ rest) (f ∷ found) = if is_other_found f then Some old else other_in (old ++ name ∷ []) rest found

-- the least of this line and of the first lines of claims where nothing stands
abbrev pub least_missing : Option ℕ → List (Option Claim) → List (Option Found) → Option ℕ
least_missing so_far [] found = so_far
least_missing so_far (c ∷ claims) [] = so_far
least_missing so_far (c ∷ claims) (f ∷ found) = least_missing (if is_standing f then so_far else lesser so_far (first_line c)) claims found
