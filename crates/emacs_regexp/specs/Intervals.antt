-- The repeats of a regexp (GNU Emacs Manual, "Syntax of Regular Expressions").
use Rattle.std.specs.Prelude.{ℕ, zero, suc, ◌+◌, ◌-◌, ◌*◌, ◌==◌, Bool, false, ◌&&◌, ◌||◌, nat_le, List, [], ◌∷◌, drop, Option, Some, None, if◌then◌else◌, option_and_then, slice_get}
use Rattle.emacs_regexp.specs.declared.token.Quantifier.{Quantifier}
use Rattle.emacs_regexp.specs.declared.token.Quantifier.TheVariants.{Star, Plus, Optional, LazyStar, LazyPlus, LazyOptional, Times, Between}

-- a text goes on with this character
abbrev pub is_next : ℕ → List ℕ → Bool
is_next c [] = false
is_next c (d ∷ ds) = d == c

-- `*`, `+` and `?`, which a `?` behind them makes lazy
abbrev pub is_repeat : ℕ → Bool
is_repeat c = c == 42 || c == 43 || c == 63

abbrev pub quantifier_of : ℕ → Bool → Quantifier
quantifier_of c is_lazy =
    if c == 42 then (if is_lazy then LazyStar else Star)
    else if c == 43 then (if is_lazy then LazyPlus else Plus)
    else (if is_lazy then LazyOptional else Optional)

-- the value of a decimal digit
abbrev pub digit : ℕ → Option ℕ
digit c = if nat_le 48 c && nat_le c 57 then Some (c - 48) else None

abbrev pub digit_at : ℕ → List ℕ → Option ℕ
digit_at place text = option_and_then digit (slice_get text place)

-- the number from 0 to 255, without a leading zero, that stands where these digits do, and how many of them it takes
abbrev pub number_by : Option ℕ → Option ℕ → Option ℕ → Option (ℕ × ℕ)
number_by None _ _ = None
number_by (Some zero) _ _ = Some (0, 1)
number_by (Some (suc a)) None _ = Some (suc a, 1)
number_by (Some (suc a)) (Some b) None = Some (suc a * 10 + b, 2)
number_by (Some (suc a)) (Some b) (Some c) =
    if nat_le (suc a * 100 + b * 10 + c) 255 then Some (suc a * 100 + b * 10 + c, 3) else None

abbrev pub number : List ℕ → Option (ℕ × ℕ)
number text = number_by (digit_at 0 text) (digit_at 1 text) (digit_at 2 text)

-- an interval ends here, with `\}`
abbrev pub is_closed : List ℕ → Bool
is_closed text = is_next 92 text && is_next 125 (drop 1 text)

-- the greatest count, behind the least one and a comma
abbrev pub between : ℕ → ℕ → List ℕ → Option (ℕ × ℕ) → Option (Quantifier × ℕ)
between least before text None = None
between least before text (Some (most, more)) =
    if nat_le least most && is_closed (drop more text) then Some (Between least most, before + 1 + more + 2) else None

-- an interval whose least count took so many characters, and what stands behind it
abbrev pub bounded : ℕ → ℕ → List ℕ → Option (Quantifier × ℕ)
bounded least before text =
    if is_closed text then Some (Times least, before + 2)
    else if is_next 44 text then between least before (drop 1 text) (number (drop 1 text))
    else None

abbrev pub from_least : List ℕ → Option (ℕ × ℕ) → Option (Quantifier × ℕ)
from_least text None = None
from_least text (Some (least, before)) = bounded least before (drop before text)

-- the interval `m\}` or `m,n\}` that stands first in a text, and how many characters it takes
abbrev pub interval : List ℕ → Option (Quantifier × ℕ)
interval text = from_least text (number text)
