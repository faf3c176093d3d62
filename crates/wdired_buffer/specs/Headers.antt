-- The names on a buffer's lines, and its headers and totals.
use Rattle.std.specs.Prelude.{ℕ, ◌-◌, Bool, true, false, ◌&&◌, nat_le, List, [], length, take, drop, Option, Some, None, Result, Ok, Err, option_map, if◌then◌else◌, codes}
use Rattle.std.specs.List.{list_all}
use Rattle.std.specs.Str.{bytes_eq}
use Rattle.dired_text.specs.Paths.{Names}
use Rattle.dired_text.specs.Resolve.{resolved}
use Rattle.dired_text.specs.declared.resolving.NameError.{NameError}
use Rattle.dired_text.specs.declared.resolving.NameError.TheVariants.{Root}
use Rattle.listing_text.specs.Dates.{◌>>=◌}
use Rattle.listing_text.specs.Fields.{name_of}
use Rattle.listing_text.specs.Numbers.{is_digit}

-- the path, where there is one
abbrev pub if_resolved : Result Names NameError → Option Names
if_resolved (Ok path) = Some path
if_resolved (Err e) = None

-- the path that a shown name names from a directory. The name is UTF-8, isn't empty, and isn't refused as it is
-- unescaped or resolved
unfoldable pub named : Names → List ℕ → Option Names
named dir shown = do
  name ← name_of shown
  if_resolved (resolved dir name)

-- the same of a directory, which may be the root
abbrev pub if_directory : Result Names NameError → Option Names
if_directory (Ok path) = Some path
if_directory (Err Root) = Some []
if_directory (Err e) = None

-- the directory that the path in a header names
unfoldable pub dir_named : List ℕ → Option Names
dir_named shown = do
  path ← name_of shown
  if_directory (resolved [] path)

-- what stands behind this front of a text, and before this end of one
abbrev pub behind : List ℕ → List ℕ → Option (List ℕ)
behind front text = if bytes_eq (take (length front) text) front then Some (drop (length front) text) else None

abbrev pub before : List ℕ → List ℕ → Option (List ℕ)
before end text =
    if bytes_eq (drop (length text - length end) text) end then Some (take (length text - length end) text) else None

-- the first of two that is there
abbrev pub first_of : {A : Type 0} → Option A → Option A → Option A
first_of (Some a) other = Some a
first_of None other = other

-- whether a header hides its section, and its path: what stands between two spaces and `: ...` or `:`
unfoldable pub header_in : List ℕ → Option (Bool × List ℕ)
header_in text = do
  rest ← behind (codes "  ") text
  first_of (option_map (λ path. (true, path)) (before (codes ": ...") rest)) (option_map (λ path. (false, path)) (before (codes ":") rest))

-- a total: a number of 1 to 18 digits
abbrev pub is_number : Option (List ℕ) → Bool
is_number None = false
is_number (Some digits) = nat_le 1 (length digits) && nat_le (length digits) 18 && list_all is_digit digits

unfoldable pub is_total : List ℕ → Bool
is_total text = is_number (behind (codes "  total ") text)
