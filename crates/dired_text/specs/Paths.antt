-- Names as lists of bytes, and paths as lists of names. The empty list is the root.
use Rattle.std.specs.Prelude.{ℕ, ◌-◌, ◌==◌, Bool, ◌&&◌, ◌||◌, not, nat_le, List, [], ◌∷◌, ◌++◌, length, take, Option, Some, None, if◌then◌else◌, is_some, codes, IsTrue}
use Rattle.std.specs.List.{list_all}
use Rattle.std.specs.declared.cmp.Ordering.{Ordering}
use Rattle.std.specs.Ordering.{nat_cmp}
use Rattle.std.specs.Cmp.Lexicographic.{slice_cmp}
use Rattle.std.specs.Str.{bytes_eq, is_utf8}

abbrev pub Names : Type 0
Names = List (List ℕ)

-- the separator of names, `/`
abbrev pub slash : ℕ
slash = 47

-- a byte that may stand in a name: any but `/` and NUL
abbrev pub is_name_byte : ℕ → Bool
is_name_byte b = not (b == slash) && not (b == 0)

-- the names that stand for a directory itself and for the one above it
abbrev pub is_dots : List ℕ → Bool
is_dots n = bytes_eq n (codes ".") || bytes_eq n (codes "..")

-- whether a text is a name: 1 to 255 bytes without `/` and NUL, and neither `.` nor `..`
abbrev pub is_name : List ℕ → Bool
is_name n = nat_le 1 (length n) && nat_le (length n) 255 && list_all is_name_byte n && not (is_dots n)

-- each of these is a name, and UTF-8, as the names of a path are
abbrev pub AreNames : Names → Type 0
AreNames p = IsTrue (list_all (λ n. is_name n && is_utf8 n) p)

-- the names, each behind a slash
abbrev pub slashed : Names → List ℕ
slashed [] = []
slashed (n ∷ p) = slash ∷ n ++ slashed p

-- the names joined by `/`
abbrev pub joined : Names → List ℕ
joined [] = []
joined (n ∷ p) = n ++ slashed p

-- the bytes of a path, its slashes counted
abbrev pub path_bytes : Names → ℕ
path_bytes p = length (joined p)

-- a path that a call can look at has at most 4,095 bytes, the limit of POSIX' PATH_MAX without the NUL
abbrev pub max_path_bytes : ℕ
max_path_bytes = 4095

-- the order of paths: as lists of names, names by bytes
abbrev pub path_cmp : Names → Names → Ordering
path_cmp = slice_cmp (slice_cmp nat_cmp)

-- what is left of a path behind p, or None where it is neither p nor below p
abbrev pub rest_below : Names → Names → Option Names
rest_below [] q = Some q
rest_below (x ∷ p) [] = None
rest_below (x ∷ p) (y ∷ q) = if bytes_eq x y then rest_below p q else None

-- whether q is p or below p
abbrev pub is_below : Names → Names → Bool
is_below p q = is_some (rest_below p q)

-- the path without its last name
abbrev pub parent : Names → Names
parent p = take (length p - 1) p
