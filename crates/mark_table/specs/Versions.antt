-- Numeric backups: files named `BASE.~N~` (GNU Emacs Manual, "Backup Names"). Here N counts from 1 and is written in
-- decimal without a leading zero, in at most 18 digits.
use Rattle.std.specs.Prelude.{ℕ, ◌-◌, ◌==◌, Bool, ◌&&◌, not, nat_le, List, [], ◌∷◌, ◌++◌, codes, length, take, drop, slice_index, Option, Some, None, if◌then◌else◌}
use Rattle.std.specs.List.{list_all}
use Rattle.std.specs.Option.{option_map}
use Rattle.std.specs.Fmt.{decimal}
use Rattle.std.specs.Str.Parse.{digits_value}
use Rattle.dired_text.specs.Paths.{slash}

abbrev pub is_digit : ℕ → Bool
is_digit b = nat_le 48 b && nat_le b 57

abbrev pub is_number : List ℕ → Bool
is_number ds = nat_le 1 (length ds) && nat_le (length ds) 18 && not (slice_index ds 0 == 48) && list_all is_digit ds

-- what stands between the first two bytes and the last
abbrev pub between : List ℕ → List ℕ
between t = take (length t - 3) (drop 2 t)

-- whether the text is `.~N~`
abbrev pub is_version_text : List ℕ → Bool
is_version_text t =
    nat_le 4 (length t) && slice_index t 0 == 46 && slice_index t 1 == 126 && slice_index t (length t - 1) == 126
    && is_number (between t)

-- N of a text `.~N~`
abbrev pub number_in : List ℕ → Option ℕ
number_in t = if is_version_text t then Some (digits_value 10 (between t)) else None

-- whether these bytes may stand in a name of a path, or be empty
abbrev pub has_no_slash : List ℕ → Bool
has_no_slash = list_all (λ b. not (b == slash))

-- `.~N~`, as it is written
abbrev pub version_text : ℕ → List ℕ
version_text n = codes ".~" ++ decimal n ++ codes "~"

abbrev pub found : Option ℕ → ℕ → Option (List ℕ × ℕ) → Option (List ℕ × ℕ)
found (Some n) b more = Some ([], n)
found None b more = option_map (λ v. (b ∷ v.0, v.1)) more

-- The bytes before `.~N~`, and N, where the text ends with `.~N~`. No two ends of a text are such, as N has no `~`.
abbrev pub version_in : List ℕ → Option (List ℕ × ℕ)
version_in [] = None
version_in (b ∷ t) = found (number_in (b ∷ t)) b (version_in t)
